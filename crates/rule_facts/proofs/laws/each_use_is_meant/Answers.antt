use Rattle.rule_facts.proofs.Meant.{each_meant}
use Rattle.rule_facts.proofs.laws.each_use_is_meant.Goals as goal

pub returns : goal.returns
returns c = each_meant
