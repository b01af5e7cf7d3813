use Rattle.std.proofs.Common.{◌≡◌, ℕ, ◌<◌, ◌≤◌, ◌||◌, ◌&&◌}
use Rattle.std.specs.Prelude.{slice_index}
use Rattle.gadara_net.specs.Graphs.{has_arc}
use Rattle.gadara_net.proofs.graphs.join_through.Given as goal

abbrev pub invariant-loop-row : goal.invariant-loop-row
invariant-loop-row l = record {
  below : (r s : ℕ) → r < l.row-index → has_arc l.rows r s ≡ (has_arc l.fn.rows r s || (has_arc l.fn.rows r l.through && has_arc l.fn.rows l.through s));
  above : (r : ℕ) → l.row-index ≤ r → slice_index l.rows r ≡ slice_index l.fn.rows r;
}
