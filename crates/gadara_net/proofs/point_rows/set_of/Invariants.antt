use Rattle.std.proofs.Common.{◌≡◌, ℕ, false, ◌<◌, ◌≤◌}
use Rattle.std.specs.Prelude.{nat_lt, slice_index}
use Rattle.net_laws.specs.Candidates.{members}
use Rattle.gadara_net.proofs.point_rows.set_of.Given as goal

abbrev pub invariant-loop-r : goal.invariant-loop-r
invariant-loop-r l = record {
  below : (s : ℕ) → s < l.r → members l.set s ≡ nat_lt 0 (slice_index l.counts s);
  above : (s : ℕ) → l.r ≤ s → members l.set s ≡ false;
}
