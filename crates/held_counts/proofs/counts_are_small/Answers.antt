use Rattle.held_counts.proofs.Growth.{parts_add_few, exits_add_few, points_hold_few}
use Rattle.held_counts.proofs.counts_are_small.Goals as goal

pub returns-clause-parts : goal.returns-clause-parts
returns-clause-parts c = parts_add_few

pub returns-clause-exits : goal.returns-clause-exits
returns-clause-exits c = exits_add_few

pub returns-clause-points : goal.returns-clause-points
returns-clause-points c = points_hold_few
