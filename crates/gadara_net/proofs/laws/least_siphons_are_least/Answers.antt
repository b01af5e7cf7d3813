use Rattle.gadara_net.specs.Flows.{flow_net}
use Rattle.gadara_net.proofs.laws.least_siphons_are_least.Goals as goal

pub returns-clause-siphon : goal.returns-clause-siphon
returns-clause-siphon c = c.least_siphons_are_least.ensures.siphon (flow_net c.args.net.now)

pub returns-clause-least : goal.returns-clause-least
returns-clause-least c = c.least_siphons_are_least.ensures.least (flow_net c.args.net.now)
