use Rattle.c_rules.proofs.UsingSampled.{names_are_in_scope}
use Rattle.c_rules.proofs.samples.names_are_in_scope.Goals as goal

pub returns : goal.returns
returns c = names_are_in_scope
