use Rattle.c_rules.proofs.UsingSampled.{recursions_are_found}
use Rattle.c_rules.proofs.samples.recursions_are_found.Goals as goal

pub returns : goal.returns
returns c = recursions_are_found
