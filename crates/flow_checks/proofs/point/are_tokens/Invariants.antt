use Rattle.std.proofs.Common.{◌≡◌, ℕ, ◌<◌, slice_index}
use Rattle.flow_checks.proofs.point.are_tokens.Given as goal

abbrev pub invariant-loop-r : goal.invariant-loop-r
invariant-loop-r l = record {
  filled : (k : ℕ) → k < l.r → 0 < slice_index l.tokens k;
  single : (k : ℕ) → k < l.r → k < l.mutexes → slice_index l.tokens k ≡ 1;
}
