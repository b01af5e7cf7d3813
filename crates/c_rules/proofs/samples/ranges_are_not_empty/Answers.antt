use Rattle.c_rules.proofs.ThreadSampled.{ranges_are_not_empty}
use Rattle.c_rules.proofs.samples.ranges_are_not_empty.Goals as goal

pub returns : goal.returns
returns c = ranges_are_not_empty
