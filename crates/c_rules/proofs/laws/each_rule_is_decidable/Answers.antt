use Rattle.c_rules.proofs.Breaks.{broken_or_not}
use Rattle.c_rules.proofs.laws.each_rule_is_decidable.Goals as goal

pub returns : goal.returns
returns c = broken_or_not
