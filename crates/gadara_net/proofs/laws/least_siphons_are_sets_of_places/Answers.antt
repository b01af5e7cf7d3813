use Rattle.gadara_net.specs.Flows.{flow_net}
use Rattle.gadara_net.proofs.laws.least_siphons_are_sets_of_places.Goals as goal

pub returns : goal.returns
returns c Q R = c.least_siphons_are_sets_of_places.ensures (flow_net c.args.net.now) Q R c.keeps_flow.ensures.shaped
