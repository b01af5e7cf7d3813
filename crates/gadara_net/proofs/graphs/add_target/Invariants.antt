use Rattle.std.proofs.Common.{◌≡◌, ℕ, ◌<◌, ◌≤◌, ◌||◌, ◌&&◌}
use Rattle.std.specs.Prelude.{◌==◌, nat_lt, slice_index}
use Rattle.gadara_net.specs.Graphs.{has_arc}
use Rattle.gadara_net.proofs.graphs.add_target.Given as goal

abbrev pub invariant-loop-r : goal.invariant-loop-r
invariant-loop-r l = record {
  below : (r s : ℕ) → r < l.r → has_arc l.rows r s ≡ (has_arc l.fn.rows r s || (nat_lt 0 (slice_index l.held r) && l.target == s));
  above : (r : ℕ) → l.r ≤ r → slice_index l.rows r ≡ slice_index l.fn.rows r;
}
