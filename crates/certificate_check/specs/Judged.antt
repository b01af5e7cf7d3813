-- What is found of the lines of a certificate.
use Rattle.std.specs.Prelude.{◌≡◌, ℕ, ◌+◌, ◌<◌, ◌^◌, ◌⊎◌, List, slice_get, Some}
use Rattle.certificate.specs.declared.Line.{Line}
use Rattle.net_laws.specs.Net.{Net}
use Rattle.net_laws.specs.Candidates.{IsCandidate, members}
use Rattle.net_laws.specs.Lines.{Holds, Covers}
use Rattle.candidates.specs.Order.{IsBefore}

-- each line holds
abbrev pub AllHold : Net → List Line → Type 0
AllHold n lines = (k : ℕ) (l : Line) → slice_get lines k ≡ Some l → Holds n l

-- the first line that doesn't hold, counted from 1
pub record IsFirstFailing (n : Net) (lines : List Line) (index : ℕ) : Type 0 where
  pub place : ℕ
  pub counted : index ≡ place + 1
  pub line : Line
  pub there : slice_get lines place ≡ Some line
  pub fails : Holds n line → ⊥
  pub first : (k : ℕ) (l : Line) → k < place → slice_get lines k ≡ Some l → Holds n l

-- some line covers the set
abbrev pub IsCoveredBy : Net → List Line → ℕ → Type 0
IsCoveredBy n lines C = (k : ℕ) × (l : Line) × (slice_get lines k ≡ Some l) × Covers n l C

-- of the candidates that no line covers the first
pub record IsFirstUncovered (n : Net) (lines : List Line) (C : ℕ) : Type 0 where
  pub below : C < 2 ^ 64
  pub candidate : IsCandidate n (members C)
  pub uncovered : IsCoveredBy n lines C → ⊥
  pub first : (Q : ℕ) → Q < 2 ^ 64 → IsCandidate n (members Q) → (IsCoveredBy n lines Q → ⊥) → (Q ≡ C) ⊎ IsBefore C Q

-- each candidate is covered
abbrev pub AllCovered : Net → List Line → Type 0
AllCovered n lines = (C : ℕ) → C < 2 ^ 64 → IsCandidate n (members C) → IsCoveredBy n lines C
