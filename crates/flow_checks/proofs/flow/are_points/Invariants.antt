use Rattle.std.proofs.Common.{◌≡◌, ℕ, ◌<◌, length, slice_get, Some}
use Rattle.edges.specs.declared.Point.{Point}
use Rattle.flow_checks.specs.Checks.{IsPointOf}
use Rattle.flow_checks.proofs.flow.are_points.Given as goal

abbrev pub invariant-loop-point : goal.invariant-loop-point
invariant-loop-point l = (k : ℕ) (p : Point) → k < l.point-index → slice_get l.flow.points k ≡ Some p → IsPointOf p l.flow.threads l.flow.mutexes (length l.flow.tokens)
