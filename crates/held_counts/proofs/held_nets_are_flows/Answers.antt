use Rattle.held_counts.proofs.Flows.{held_shaped, mutexes_fit, held_flows}
use Rattle.held_counts.proofs.held_nets_are_flows.Goals as goal

pub returns-clause-shaped : goal.returns-clause-shaped
returns-clause-shaped c = held_shaped

pub returns-clause-fitting : goal.returns-clause-fitting
returns-clause-fitting c = mutexes_fit

pub returns-clause-flows : goal.returns-clause-flows
returns-clause-flows c = held_flows
