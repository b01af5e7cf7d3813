-- The first bad set of a net.
use Rattle.std.specs.Prelude.{◌≡◌, ℕ}
use Rattle.certificate.specs.declared.LineKind.{LineKind}
use Rattle.net_laws.specs.Net.{Net}
use Rattle.net_laws.specs.Candidates.{IsMinimal, members}
use Rattle.net_laws.specs.Lines.{IsBad, IsCovered, IsSimple, LineHolds}
use Rattle.candidates.specs.Order.{IsBefore}

-- some simple line for the set holds
abbrev pub HasSimpleLine : Net → ℕ → Type 0
HasSimpleLine n C = (kind : LineKind) × IsSimple kind × LineHolds n (members C) kind

-- a minimal set for which no simple line holds, and each minimal set before it has one
pub record IsFirstBad (n : Net) (C : ℕ) : Type 0 where
  pub minimal : IsMinimal n C
  pub bad : IsBad n C
  pub first : (Q : ℕ) → IsMinimal n Q → IsBefore Q C → HasSimpleLine n Q

-- there is one at most
abbrev pub FirstBadIsOne : Type 0
FirstBadIsOne = (n : Net) (C D : ℕ) → IsFirstBad n C → IsFirstBad n D → C ≡ D

-- a covered net has none
abbrev pub CoveredHaveNoBad : Type 0
CoveredHaveNoBad = (n : Net) (C : ℕ) → IsCovered n → IsFirstBad n C → ⊥
