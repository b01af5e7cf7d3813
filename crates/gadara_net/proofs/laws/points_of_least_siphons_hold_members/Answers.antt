use Rattle.gadara_net.specs.Flows.{flow_net}
use Rattle.gadara_net.proofs.laws.points_of_least_siphons_hold_members.Goals as goal

pub returns-clause-holds : goal.returns-clause-holds
returns-clause-holds c R p = c.points_of_least_siphons_hold_members.ensures.holds (flow_net c.args.net.now) R p c.keeps_flow.ensures.net

pub returns-clause-takers : goal.returns-clause-takers
returns-clause-takers c = c.points_of_least_siphons_hold_members.ensures.takers (flow_net c.args.net.now)
