use Rattle.flow_laws.proofs.Shown.{nets_nets, nets_shaped, mutexes_once, points_counts, places_few, edges_few, flows_make}
use Rattle.flow_laws.proofs.conditions.flows_meet_the_nets_condition.Goals as goal

pub returns-clause-net : goal.returns-clause-net
returns-clause-net c = nets_nets

pub returns-clause-shaped : goal.returns-clause-shaped
returns-clause-shaped c = nets_shaped

pub returns-clause-once : goal.returns-clause-once
returns-clause-once c = mutexes_once

pub returns-clause-counts : goal.returns-clause-counts
returns-clause-counts c = points_counts

pub returns-clause-places : goal.returns-clause-places
returns-clause-places c = places_few

pub returns-clause-edges : goal.returns-clause-edges
returns-clause-edges c = edges_few

pub returns-clause-makes : goal.returns-clause-makes
returns-clause-makes c = flows_make
