use Rattle.weight_laws.proofs.Counts.{within_capacity, fitting}
use Rattle.weight_laws.proofs.Keeping.{new_line}
use Rattle.weight_laws.proofs.inserted.monitors_bound_their_sets.Goals as goal

pub returns-clause-line : goal.returns-clause-line
returns-clause-line c = new_line

pub returns-clause-capacity : goal.returns-clause-capacity
returns-clause-capacity c = within_capacity

pub returns-clause-fitting : goal.returns-clause-fitting
returns-clause-fitting c = fitting
