use Rattle.gadara_net.specs.Flows.{flow_net}
use Rattle.candidates.specs.Next.{IsStart}
use Rattle.candidates.proofs.Order.{steps_left}
use Rattle.net_rows.proofs.checks.listed.Given as goal

abbrev pub invariant-loop-next : goal.invariant-loop-next
invariant-loop-next l = IsStart (flow_net l.candidates) l.at

abbrev pub decreases-loop-next : goal.decreases-loop-next
decreases-loop-next l = steps_left l.at
