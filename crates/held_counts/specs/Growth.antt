-- Counts are small: no more tokens of a resource are held than there are points before.
use Rattle.std.specs.Prelude.{◌≡◌, ◌+◌, ◌≤◌, ◌<◌, ℕ, List, Some, slice_index, length}
use Rattle.outlines.specs.Outline.{Parts, Thread}
use Rattle.outlines.specs.Points.{end_all, all_rows}
use Rattle.held_counts.specs.Counts.{after_all, first_exit_all, all_counts}
use Rattle.held_counts.specs.Held.{HasCounts}

-- behind parts, and at their first exit, there are at most as many more as the parts have points
abbrev pub PartsAddFew : Type 0
PartsAddFew = (here : List ℕ) (xs : Parts) (p r : ℕ) → slice_index (after_all here xs) r + p ≤ slice_index here r + end_all xs p

abbrev pub ExitsAddFew : Type 0
ExitsAddFew = (here : List ℕ) (xs : Parts) (p r : ℕ) (c : List ℕ) → first_exit_all here xs ≡ Some c → slice_index c r + p ≤ slice_index here r + end_all xs p

abbrev pub PointsHoldFew : Type 0
PointsHoldFew = (nothing : List ℕ) (ths : List Thread) (held : ℕ → List ℕ) → HasCounts held 0 (all_counts nothing 0 ths) →
    (i r : ℕ) → i < length (all_rows 0 ths 0) → slice_index (held i) r ≤ slice_index nothing r + i
