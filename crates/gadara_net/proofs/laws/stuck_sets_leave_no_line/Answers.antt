use Rattle.gadara_net.specs.Flows.{flow_net}
use Rattle.gadara_net.proofs.laws.stuck_sets_leave_no_line.Goals as goal

pub returns : goal.returns
returns c m T R Q kind = c.stuck_sets_leave_no_line.ensures (flow_net c.args.net.now) m T R Q kind c.keeps_flow.ensures.net
