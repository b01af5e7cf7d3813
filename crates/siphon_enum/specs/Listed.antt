-- Minimal sets in a list, in the order of candidates: by size, and those of one size by their masks as numbers.
use Rattle.std.specs.Prelude.{◌≡◌, ℕ, ◌<◌, List, length, ◌↔◌, AllPairs, Contains}
use Rattle.net_laws.specs.Net.{Net}
use Rattle.net_laws.specs.Candidates.{IsMinimal}
use Rattle.candidates.specs.Order.{IsBefore}

-- minimal sets, in order and each once
pub record AreMinimal (n : Net) (sets : List ℕ) : Type 0 where
  pub ordered : AllPairs IsBefore sets
  pub minimal : (C : ℕ) → Contains sets C → IsMinimal n C

-- the minimal sets, all of them and nothing else, in order and each once
pub record AreAllMinimal (n : Net) (sets : List ℕ) : Type 0 where
  pub ordered : AllPairs IsBefore sets
  pub exact : (C : ℕ) → Contains sets C ↔ IsMinimal n C

-- the first so many minimal sets, in order and each once: with each of them also each that stands before it
pub record AreFirstMinimal (n : Net) (count : ℕ) (sets : List ℕ) : Type 0 where
  pub as_many : length sets ≡ count
  pub ordered : AllPairs IsBefore sets
  pub minimal : (C : ℕ) → Contains sets C → IsMinimal n C
  pub first : (Q C : ℕ) → Contains sets C → IsMinimal n Q → IsBefore Q C → Contains sets Q

-- there are more minimal sets than this number
abbrev pub HasMoreMinimal : Net → ℕ → Type 0
HasMoreMinimal n count = (sets : List ℕ) × AreMinimal n sets × (count < length sets)
