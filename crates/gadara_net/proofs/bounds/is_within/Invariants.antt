use Rattle.std.proofs.Common.{◌≡◌, ℕ, ◌*◌, ◌<◌, ◌≤◌, Some}
use Rattle.std.specs.Prelude.{slice_get, slice_index}
use Rattle.edges.specs.declared.Point.{Point}
use Rattle.net_laws.specs.Lines.{times_of}
use Rattle.gadara_net.specs.Bounds.{point_bound}
use Rattle.gadara_net.proofs.bounds.is_within.Given as goal

abbrev pub invariant-loop-p : goal.invariant-loop-p
invariant-loop-p l = (k : ℕ) (p : Point) → k < l.p → slice_get l.flow.points k ≡ Some p → times_of l.kind * slice_index l.sums k ≤ point_bound l.tokens l.kind p
