use Rattle.std.proofs.Common.{◌≡◌, ℕ, ◌<◌, ◌&&◌, Some, length, take}
use Rattle.std.specs.Prelude.{◌==◌, slice_get}
use Rattle.std.specs.List.{list_any}
use Rattle.weight_laws.specs.Flow.{is_try}
use Rattle.gadara_net.proofs.point_rows.note_tries.Given as goal

abbrev pub invariant-loop-edge : goal.invariant-loop-edge
invariant-loop-edge l =
    (p : ℕ) → p < length l.flow.points → slice_get l.tried p ≡ Some (list_any (λ e. e.from == p && is_try e.op) (take l.edge-index l.flow.edges))
