-- Sets of places. A set says of each number whether it is in.
use Rattle.std.specs.Prelude.{◌≡◌, ℕ, Bool, false, ◌||◌, ◌==◌, IsTrue, count_by}
use Rattle.std.specs.List.{range_with_len}

-- no place is in
abbrev pub IsEmpty : (ℕ → Bool) → Type 0
IsEmpty set = (place : ℕ) → set place ≡ false

-- the new set has one more place than the old one, or that place was in before
abbrev pub HasGained : (ℕ → Bool) → (ℕ → Bool) → ℕ → Type 0
HasGained old new place = (other : ℕ) → new other ≡ (old other || other == place)

-- each place of the one is in the other
abbrev pub IsPartOf : (ℕ → Bool) → (ℕ → Bool) → Type 0
IsPartOf one other = (place : ℕ) → IsTrue (one place) → IsTrue (other place)

-- both have the same places
abbrev pub AreSame : (ℕ → Bool) → (ℕ → Bool) → Type 0
AreSame one other = (place : ℕ) → one place ≡ other place

-- how many places below a bound are in
abbrev pub count_below : (ℕ → Bool) → ℕ → ℕ
count_below set bound = count_by set (range_with_len 0 bound)
