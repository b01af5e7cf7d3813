-- The least siphons of the sets of lines, which are kept in sets of places.
use Rattle.std.specs.Prelude.{◌≡◌, ℕ, ◌+◌, ◌↔◌, Bool, List, length, slice_get, Some, IsTrue}
use Rattle.place_sets.specs.Sets.{IsPartOf}
use Rattle.certificate.specs.declared.Line.{Line}
use Rattle.net_laws.specs.Net.{Net}
use Rattle.net_laws.specs.Siphons.{HasPlace}
use Rattle.net_laws.specs.Candidates.{members}

-- a set of places of the net is the least siphon of a set of resources
pub record IsSiphonOf (n : Net) (mask bound : ℕ) (places : ℕ → Bool) : Type 0 where
  pub size : bound ≡ n.points + n.resources
  pub places_are : (place : ℕ) → IsTrue (places place) ↔ HasPlace n (members mask) place

-- for each line there is the least siphon of its set
pub record AreSiphons {X : Type 0} (bound : X → ℕ) (places : X → ℕ → Bool) (n : Net) (lines : List Line) (siphons : List X) : Type 0 where
  pub each : length siphons ≡ length lines
  pub are : (k : ℕ) (l : Line) (s : X) → slice_get lines k ≡ Some l → slice_get siphons k ≡ Some s → IsSiphonOf n l.resources (bound s) (places s)

-- of some line the resources and the places lie in these
abbrev pub SomeLies : {X : Type 0} → (X → ℕ → Bool) → List Line → List X → ℕ → (ℕ → Bool) → Type 0
SomeLies places lines siphons mask set =
    (k : ℕ) × (l : Line) × (s : _) × (slice_get lines k ≡ Some l) × (slice_get siphons k ≡ Some s) × IsPartOf (members l.resources) (members mask) × IsPartOf (places s) set
