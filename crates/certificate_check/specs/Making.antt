-- Certificates of the first lines of minimal sets.
use Rattle.std.specs.Prelude.{◌≡◌, ℕ, List, length, slice_get, Some}
use Rattle.certificate.specs.declared.Line.{Line}
use Rattle.net_laws.specs.Net.{Net}
use Rattle.net_laws.specs.Candidates.{IsMinimal}
use Rattle.gadara_net.specs.Bounds.{IsFirst}

-- each minimal set is one of these
abbrev pub HaveMinimalSets : Net → List ℕ → Type 0
HaveMinimalSets n sets = (C : ℕ) → IsMinimal n C → (k : ℕ) × (slice_get sets k ≡ Some C)

-- the lines are the first simple ones that hold for these sets, one for each
pub record AreFirstLines (n : Net) (sets : List ℕ) (lines : List Line) : Type 0 where
  pub each : length lines ≡ length sets
  pub first : (k C : ℕ) (l : Line) → slice_get sets k ≡ Some C → slice_get lines k ≡ Some l → IsFirst n C l
