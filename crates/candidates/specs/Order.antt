-- Sets of resources in order: by size, and those of one size by their masks as numbers.
use Rattle.std.specs.Prelude.{◌≡◌, ℕ, ◌<◌, ◌⊎◌, count_ones}

-- the one set has fewer members, or as many and the lesser mask
abbrev pub IsBefore : ℕ → ℕ → Type 0
IsBefore one other = (count_ones one < count_ones other) ⊎ ((count_ones one ≡ count_ones other) × (one < other))
