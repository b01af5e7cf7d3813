use Rattle.c_rules.proofs.ThreadSampled.{main_is_there}
use Rattle.c_rules.proofs.samples.main_is_there.Goals as goal

pub returns : goal.returns
returns c = main_is_there
