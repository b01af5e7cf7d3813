-- The next candidate behind a set, in the order of sets.
use Rattle.std.specs.Prelude.{◌≡◌, ℕ, ◌<◌, ◌^◌, ◌⊎◌}
use Rattle.net_laws.specs.Net.{Net}
use Rattle.net_laws.specs.Candidates.{IsCandidate, members}
use Rattle.candidates.specs.Order.{IsBefore}

-- no set, or a candidate
abbrev pub IsStart : Net → ℕ → Type 0
IsStart n after = (after ≡ 0) ⊎ IsCandidate n (members after)

-- a candidate that stands behind a set in the order
pub record IsBehind (n : Net) (after C : ℕ) : Type 0 where
  pub below : C < 2 ^ 64
  pub candidate : IsCandidate n (members C)
  pub behind : IsBefore after C

-- no candidate stands behind the set
abbrev pub IsLast : Net → ℕ → Type 0
IsLast n after = (C : ℕ) → IsBehind n after C → ⊥

-- the first of the candidates that stand behind the set
pub record IsNext (n : Net) (after next : ℕ) : Type 0 where
  pub is : IsBehind n after next
  pub first : (C : ℕ) → IsBehind n after C → (C ≡ next) ⊎ IsBefore next C
