use Rattle.std.proofs.Common.{◌≡◌, ℕ, ◌<◌, length}
use Rattle.std.specs.Prelude.{nat_lt, slice_get, slice_index}
use Rattle.net_laws.specs.Candidates.{members}
use Rattle.net_laws.specs.Shown.{held_at}
use Rattle.gadara_net.proofs.point_rows.held_sets.Given as goal

abbrev pub invariant-loop-point : goal.invariant-loop-point
invariant-loop-point l = record {
  each : length l.sets.items ≡ l.point-index;
  exact : (p r : ℕ) → p < l.point-index → members (slice_index l.sets.items p) r ≡ nat_lt 0 (held_at (slice_get l.points p) r);
}
