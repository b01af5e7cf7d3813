use Rattle.std.proofs.Common.{ℕ, ◌<◌, length}
use Rattle.std.specs.Prelude.{All, Contains, slice_index}
use Rattle.monitor_synth.proofs.order.places_above_zero.Given as goal

abbrev pub invariant-loop-p : goal.invariant-loop-p
invariant-loop-p l = record {
  below : All (λ q. q < length l.w) l.places.items;
  each : (q : ℕ) → q < l.p → 0 < slice_index l.w q → Contains l.places.items q;
}
