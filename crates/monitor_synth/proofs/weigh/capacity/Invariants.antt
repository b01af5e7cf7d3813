use Rattle.std.proofs.Common.{◌≡◌, ◌*◌, ◌^◌, ◌≤◌}
use Rattle.net_laws.specs.Candidates.{members}
use Rattle.net_laws.specs.Lines.{total}
use Rattle.gadara_net.specs.Flows.{flow_net}
use Rattle.monitor_synth.proofs.weigh.capacity.Given as goal

abbrev pub invariant-loop-r : goal.invariant-loop-r
invariant-loop-r l = record {
  sum : l.sum ≡ total l.r (members l.resources) (flow_net l.n).tokens;
  small : l.sum ≤ l.r * 2 ^ 32;
}
