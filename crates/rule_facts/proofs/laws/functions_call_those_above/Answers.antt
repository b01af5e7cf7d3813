use Rattle.rule_facts.proofs.Behind.{regular_names}
use Rattle.rule_facts.proofs.laws.functions_call_those_above.Goals as goal

pub returns : goal.returns
returns c = regular_names
