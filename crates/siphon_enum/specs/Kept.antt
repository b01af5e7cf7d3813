-- The minimal sets that are kept while candidates are gone through, with their least siphons.
use Rattle.std.specs.Prelude.{◌≡◌, ℕ, suc, ◌≤◌, Bool, List, length, ◌↔◌, AllPairs, Contains}
use Rattle.net_laws.specs.Net.{Net}
use Rattle.net_laws.specs.Candidates.{IsMinimal}
use Rattle.candidates.specs.Order.{IsBefore}
use Rattle.siphon_enum.specs.Rows.{HaveSize, AreSiphonsOf, place_count}

-- at most so many sets are kept, in order, and the rows hold their least siphons; there is one row more than the limit
pub record AreKept {Row : Type 0} (bound : Row → ℕ) (places : Row → ℕ → Bool) (n : Net) (limit : ℕ) (sets : List ℕ) (siphons : List Row) : Type 0 where
  pub few : length sets ≤ limit
  pub ordered : AllPairs IsBefore sets
  pub rows : length siphons ≡ suc limit
  pub sizes : HaveSize bound (place_count n) siphons
  pub hold : AreSiphonsOf places n sets siphons

-- the minimal sets that stand before R
abbrev pub AreMinimalBefore : Net → ℕ → List ℕ → Type 0
AreMinimalBefore n R sets = (C : ℕ) → Contains sets C ↔ (IsMinimal n C × IsBefore C R)

-- the minimal sets that don't stand behind R
abbrev pub AreMinimalUpTo : Net → ℕ → List ℕ → Type 0
AreMinimalUpTo n R sets = (C : ℕ) → Contains sets C ↔ (IsMinimal n C × (IsBefore R C → ⊥))

-- the minimal sets before R are as many as the limit, and R is minimal too
pub record IsOneTooMany (n : Net) (limit R : ℕ) (sets : List ℕ) : Type 0 where
  pub count : length sets ≡ limit
  pub before : AreMinimalBefore n R sets
  pub minimal : IsMinimal n R
