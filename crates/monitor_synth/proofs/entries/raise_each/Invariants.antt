use Rattle.std.proofs.Common.{◌≡◌, ℕ, ◌<◌, ◌≤◌, ◌⊎◌, Some}
use Rattle.std.specs.Prelude.{slice_get, slice_index}
use Rattle.edges.specs.declared.Edge.{Edge}
use Rattle.net_laws.specs.Net.{HasEdge}
use Rattle.gadara_net.specs.Flows.{flow_net}
use Rattle.monitor_synth.proofs.entries.raise_each.Given as goal

abbrev pub invariant-loop-k : goal.invariant-loop-k
invariant-loop-k l = record {
  own : (p : ℕ) → slice_index l.m p ≤ slice_index l.entry p;
  next : (j : ℕ) (e : Edge) → j < l.k → slice_get l.n.edges j ≡ Some e → slice_index l.m e.to ≤ slice_index l.entry e.from;
  met : (p : ℕ) → (slice_index l.entry p ≡ slice_index l.m p) ⊎ ((e : Edge) × HasEdge (flow_net l.n) e × (e.from ≡ p) × (slice_index l.entry p ≡ slice_index l.m e.to));
}
