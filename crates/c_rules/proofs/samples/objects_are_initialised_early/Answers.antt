use Rattle.c_rules.proofs.ThreadSampled.{objects_are_initialised_early}
use Rattle.c_rules.proofs.samples.objects_are_initialised_early.Goals as goal

pub returns : goal.returns
returns c = objects_are_initialised_early
