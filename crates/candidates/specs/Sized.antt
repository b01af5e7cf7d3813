-- Candidates of one size, and of one greatest member.
use Rattle.std.specs.Prelude.{◌≡◌, ℕ, suc, ◌+◌, ◌<◌, ◌≤◌, ◌^◌, ◌⊎◌, count_ones}
use Rattle.net_laws.specs.Net.{Net}
use Rattle.net_laws.specs.Candidates.{IsCandidate, members}
use Rattle.candidates.specs.Order.{IsBefore}
use Rattle.candidates.specs.Subsets.{IsChoice}

-- a candidate with so many members and a mask above a number
pub record IsSized (n : Net) (size after C : ℕ) : Type 0 where
  pub below : C < 2 ^ 64
  pub candidate : IsCandidate n (members C)
  pub count : count_ones C ≡ size
  pub above : after < C

-- the greatest member of the set
abbrev pub HasTop : ℕ → ℕ → Type 0
HasTop C top = (2 ^ top ≤ C) × (C < 2 ^ suc top)

-- of the candidates of this size the one with the least mask above the number
pub record IsLeastSized (n : Net) (size after C : ℕ) : Type 0 where
  pub sized : IsSized n size after C
  pub least : (Q : ℕ) → IsSized n size after Q → C ≤ Q

-- of the candidates of this size and this greatest member the one with the least mask above the number
pub record IsLeastTopped (n : Net) (size after top C : ℕ) : Type 0 where
  pub sized : IsSized n size after C
  pub topped : HasTop C top
  pub least : (Q : ℕ) → IsSized n size after Q → HasTop Q top → C ≤ Q

-- no set, or a candidate of this size
abbrev pub IsSizedStart : Net → ℕ → ℕ → Type 0
IsSizedStart n size after = (after ≡ 0) ⊎ (IsCandidate n (members after) × (count_ones after ≡ size))

-- of the parts of the room with so many members the one with the least mask that with the top is above the number
pub record IsLeastRest (room size after top rest : ℕ) : Type 0 where
  pub choice : IsChoice room size rest
  pub above : after < 2 ^ top + rest
  pub least : (other : ℕ) → IsChoice room size other → after < 2 ^ top + other → rest ≤ other

-- of the candidates with more members than a number says the first
pub record IsFirstLarger (n : Net) (size C : ℕ) : Type 0 where
  pub below : C < 2 ^ 64
  pub candidate : IsCandidate n (members C)
  pub larger : size < count_ones C
  pub first : (Q : ℕ) → Q < 2 ^ 64 → IsCandidate n (members Q) → size < count_ones Q → (Q ≡ C) ⊎ IsBefore C Q
