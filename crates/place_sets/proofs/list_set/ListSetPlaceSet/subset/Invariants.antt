use Rattle.std.proofs.Common.{◌≡◌, ℕ, ◌<◌, true, slice_index}
use Rattle.place_sets.specs.Lists.{stands_in}
use Rattle.place_sets.proofs.list_set.ListSetPlaceSet.subset.Given as goal

abbrev pub invariant-loop-place : goal.invariant-loop-place
invariant-loop-place l = (k : ℕ) → k < l.place-index → stands_in l.other.places.items (slice_index l.self.places.items k) ≡ true
