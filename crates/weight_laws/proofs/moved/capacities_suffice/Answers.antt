use Rattle.weight_laws.proofs.Capacity.{below, moved_below, two, empty}
use Rattle.weight_laws.proofs.moved.capacities_suffice.Goals as goal

pub returns-clause-weights : goal.returns-clause-weights
returns-clause-weights c = below

pub returns-clause-moved : goal.returns-clause-moved
returns-clause-moved c = moved_below

pub returns-clause-two : goal.returns-clause-two
returns-clause-two c = two

pub returns-clause-empty : goal.returns-clause-empty
returns-clause-empty c = empty
