use Rattle.held_counts.proofs.Along.{counts_are_one}
use Rattle.held_counts.proofs.counts_are_one.Goals as goal

pub returns : goal.returns
returns c = counts_are_one
