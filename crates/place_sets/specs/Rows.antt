-- Sets of places that are kept as rows of words of 64 bits.
use Rattle.std.specs.Prelude.{◌≡◌, ℕ, ◌<◌, ◌≤◌, ◌/◌, ◌%◌, Bool, ◌==◌, List, slice_index, bit_and}
use Rattle.std.specs.Int.{bit_at}

-- whether the bit of a place is set
abbrev pub is_set : List ℕ → ℕ → Bool
is_set words place = bit_at (slice_index words (place / 64)) (place % 64) == 1

-- in the words from one up to another, each bit of the one row is set in the other row too
abbrev pub LieWithin : List ℕ → List ℕ → ℕ → ℕ → Type 0
LieWithin one other from to =
    (k : ℕ) → from ≤ k → k < to → bit_and (slice_index one k) (slice_index other k) ≡ slice_index one k

-- the words from one up to another are the same in both rows
abbrev pub AreSameWords : List ℕ → List ℕ → ℕ → ℕ → Type 0
AreSameWords one other from to = (k : ℕ) → from ≤ k → k < to → slice_index one k ≡ slice_index other k
