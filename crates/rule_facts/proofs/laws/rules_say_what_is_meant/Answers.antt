use Rattle.rule_facts.proofs.Ruled.{regular}
use Rattle.rule_facts.proofs.laws.rules_say_what_is_meant.Goals as goal

pub returns : goal.returns
returns c = regular
