-- Rows of places that hold least siphons.
use Rattle.std.specs.Prelude.{◌≡◌, ℕ, ◌+◌, ◌<◌, Bool, List, IsTrue, ◌↔◌, Some, slice_get, All, Contains}
use Rattle.net_laws.specs.Net.{Net}
use Rattle.net_laws.specs.Siphons.{HasPlace, LiesIn, only}
use Rattle.net_laws.specs.Candidates.{members}

-- how many places a net has
abbrev pub place_count : Net → ℕ
place_count n = n.points + n.resources

-- each row has this size
abbrev pub HaveSize : {Row : Type 0} → (Row → ℕ) → ℕ → List Row → Type 0
HaveSize bound size rows = All (λ row. bound row ≡ size) rows

-- the places are those of the set's least siphon
abbrev pub IsSiphonOf : Net → ℕ → (ℕ → Bool) → Type 0
IsSiphonOf n C places = (place : ℕ) → IsTrue (places place) ↔ HasPlace n (members C) place

-- the first rows hold the least siphons of these sets, in the order of the sets
abbrev pub AreSiphonsOf : {Row : Type 0} → (Row → ℕ → Bool) → Net → List ℕ → List Row → Type 0
AreSiphonsOf {Row} places n sets rows =
    (k C : ℕ) (row : Row) → slice_get sets k ≡ Some C → slice_get rows k ≡ Some row → IsSiphonOf n C (places row)

-- the places of the least siphons of the single resources below a number are in
abbrev pub HoldsSingles : Net → ℕ → (ℕ → Bool) → Type 0
HoldsSingles n count places = (r place : ℕ) → r < count → HasPlace n (only r) place → IsTrue (places place)

-- the least siphon of one of the sets lies in that of C
abbrev pub ContainsOne : Net → List ℕ → ℕ → Type 0
ContainsOne n sets C = (Q : ℕ) × Contains sets Q × LiesIn n (members Q) (members C)
