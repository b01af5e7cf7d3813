use Rattle.gadara_net.specs.Flows.{flow_net}
use Rattle.candidates.proofs.Inside.{in_component}
use Rattle.candidates.proofs.laws.candidates_lie_in_components.Goals as goal

pub returns : goal.returns
returns c C r s is in_r in_s = in_component (flow_net c.args.net.now) C is r s in_r in_s
