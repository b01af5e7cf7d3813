use Rattle.std.proofs.Common.{◌≡◌, ℕ, ◌<◌, slice_get, Some}
use Rattle.edges.specs.declared.Edge.{Edge}
use Rattle.flow_checks.proofs.edge.is_only_edge.Given as goal

abbrev pub invariant-loop-other : goal.invariant-loop-other
invariant-loop-other l = (k : ℕ) (f : Edge) → k < l.other-index → slice_get l.edges k ≡ Some f → f.from ≡ l.edge.from → f ≡ l.edge
