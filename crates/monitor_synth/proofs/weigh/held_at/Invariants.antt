use Rattle.std.proofs.Common.{◌≡◌, ◌*◌, ◌^◌, ◌≤◌, sum_by, take}
use Rattle.gadara_net.specs.Flows.{flow_net}
use Rattle.monitor_synth.proofs.weigh.held_at.Given as goal

abbrev pub invariant-loop-r : goal.invariant-loop-r
invariant-loop-r l = record {
  sum : l.sum ≡ sum_by (λ r. (flow_net l.n).held l.point r) (take l.r-index l.list);
  small : l.sum ≤ l.r-index * 2 ^ 32;
}
