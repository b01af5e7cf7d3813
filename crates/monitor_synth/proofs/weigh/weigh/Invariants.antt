use Rattle.std.proofs.Common.{◌≡◌, ℕ, ◌-◌, ◌<◌, length, sum_by}
use Rattle.std.specs.Prelude.{slice_index}
use Rattle.net_laws.specs.Net.{one}
use Rattle.gadara_net.specs.Flows.{flow_net}
use Rattle.monitor_synth.proofs.weigh.weigh.Given as goal

abbrev pub invariant-loop-p : goal.invariant-loop-p
invariant-loop-p g l = record {
  each : length l.weights.items ≡ l.p;
  exact : (q : ℕ) → q < l.p → slice_index l.weights.items q ≡ sum_by (λ r. (flow_net l.n).held q r) l.list - one (g.S.PlaceSet.places l.siphon q);
}
