use Rattle.c_rules.proofs.ThreadSampled.{threads_are_created_at_fixed_places}
use Rattle.c_rules.proofs.samples.threads_are_created_at_fixed_places.Goals as goal

pub returns : goal.returns
returns c = threads_are_created_at_fixed_places
