-- Which candidates lines cover, by the places of least siphons.
use Rattle.std.proofs.Common.{◌≡◌, ℕ, zero, suc, ◌<◌, ◌^◌, Bool, List, [], ◌∷◌, ◌++◌, length, Some, ◌⊎◌, ◌↔◌, refl, sym, ap, ◌∙◌, subst, inl, inr, ⊎_elim, arith}
use Rattle.std.specs.Prelude.{IsTrue, slice_get}
use Rattle.std.proofs.lemmas.Option.{same_Some, slice_get_within}
use Rattle.certificate.specs.declared.Line.{Line}
use Rattle.net_laws.specs.Net.{Net}
use Rattle.net_laws.specs.Siphons.{HasPlace, LiesIn}
use Rattle.net_laws.specs.Candidates.{IsCandidate, members}
use Rattle.gadara_net.proofs.ListReads.{read_push}
use Rattle.candidates.specs.Order.{IsBefore}
use Rattle.candidates.specs.Next.{IsLast, IsNext}
use Rattle.candidates.proofs.Lying.{zero_before}
use Rattle.certificate_check.specs.Judged.{IsCoveredBy, IsFirstUncovered, AllCovered}
use Rattle.certificate_check.specs.Covering.{IsSiphonOf, AreSiphons, SomeLies}

-- the element at a place
pub element_at : {X : Type 0} (xs : List X) (i : ℕ) → i < length xs → (x : X) × (slice_get xs i ≡ Some x)
element_at [] i lt = absurd (omega (arith, lt))
element_at (x ∷ xs) zero lt = (x, refl)
element_at (x ∷ xs) (suc i) lt = element_at xs i (omega (arith, lt))

-- one siphon more, for one line more
pub siphons_more : {X : Type 0} (bound : X → ℕ) (places : X → ℕ → Bool) (n : Net) (lines : List Line) (xs ys : List X) (v : X) (i : ℕ) (item : Line)
    → ys ≡ xs ++ v ∷ [] → length xs ≡ i → slice_get lines i ≡ Some item → IsSiphonOf n item.resources (bound v) (places v)
    → ((k : ℕ) (l : Line) (s : X) → slice_get lines k ≡ Some l → slice_get xs k ≡ Some s → IsSiphonOf n l.resources (bound s) (places s))
    → (k : ℕ) (l : Line) (s : X) → slice_get lines k ≡ Some l → slice_get ys k ≡ Some s → IsSiphonOf n l.resources (bound s) (places s)
siphons_more bound places n lines xs ys v i item pushed long there made are k l s at in_ys =
    ⊎_elim
    (λ old. are k l s at old)
    (λ new.
    let here : k ≡ i = new.0 ∙ long in
    let same : item ≡ l = same_Some item l (sym there ∙ (ap (slice_get lines) (sym here) ∙ at)) in
    subst (λ x. IsSiphonOf n x.resources (bound s) (places s)) same (subst (λ x. IsSiphonOf n item.resources (bound x) (places x)) (sym new.1) made))
    (read_push xs v k s (subst (λ zs. slice_get zs k ≡ Some s) pushed in_ys))

-- the law of a net that one least siphon lies in another exactly where its places do
abbrev pub LiesByPlaces : Net → Type 0
LiesByPlaces n = (Q R : ℕ → Bool) → LiesIn n Q R ↔ ((place : ℕ) → HasPlace n Q place → HasPlace n R place)

-- where the places of a line's siphon lie in those of a set's, the line covers the set
pub covered_from : {X : Type 0} (bound : X → ℕ) (places : X → ℕ → Bool) (n : Net) (lines : List Line) (siphons : List X) (C : ℕ) (set : ℕ → Bool)
    → LiesByPlaces n → AreSiphons bound places n lines siphons → ((place : ℕ) → IsTrue (set place) ↔ HasPlace n (members C) place) → SomeLies places lines siphons C set → IsCoveredBy n lines C
covered_from bound places n lines siphons C set by are is some =
    let l = some.1 in
    let s = are.are some.0 l some.2 some.3 some.4 in
    (some.0, l, some.3, (by (members l.resources) (members C)).1 (λ place has. (is place).0 (some.6 place ((s.places_are place).1 has))))

pub lies_from : {X : Type 0} (bound : X → ℕ) (places : X → ℕ → Bool) (n : Net) (lines : List Line) (siphons : List X) (C : ℕ) (set : ℕ → Bool)
    → LiesByPlaces n → AreSiphons bound places n lines siphons → ((place : ℕ) → IsTrue (set place) ↔ HasPlace n (members C) place) → IsCoveredBy n lines C → SomeLies places lines siphons C set
lies_from bound places n lines siphons C set by are is covered =
    let l = covered.1 in
    let lt = slice_get_within lines covered.0 l covered.2 in
    let x = element_at siphons covered.0 (omega (arith, lt, are.each)) in
    let s = are.are covered.0 l x.0 covered.2 x.1 in
    (covered.0, l, x.0, covered.2, x.1, covered.3.resources, λ place on. (is place).1 ((by (members l.resources) (members C)).0 covered.3 place ((s.places_are place).0 on)))

-- each candidate up to a set is covered
abbrev pub AreCoveredUpTo : Net → List Line → ℕ → Type 0
AreCoveredUpTo n lines at = (C : ℕ) → C < 2 ^ 64 → IsCandidate n (members C) → IsCoveredBy n lines C ⊎ IsBefore at C

pub covered_first : (n : Net) (lines : List Line) → AreCoveredUpTo n lines 0
covered_first n lines C lt is = inr (zero_before n C is)

pub covered_next : (n : Net) (lines : List Line) (at next : ℕ) → AreCoveredUpTo n lines at → IsNext n at next → IsCoveredBy n lines next → AreCoveredUpTo n lines next
covered_next n lines at next up_to is covered C lt candidate =
    ⊎_elim
    (λ c. inl c)
    (λ behind. ⊎_elim
    (λ same. inl (subst (IsCoveredBy n lines) (sym same) covered))
    (λ before. inr before)
    (is.first C (record { below = lt; candidate = candidate; behind = behind })))
    (up_to C lt candidate)

pub uncovered_first : (n : Net) (lines : List Line) (at next : ℕ) → AreCoveredUpTo n lines at → IsNext n at next → (IsCoveredBy n lines next → ⊥) → IsFirstUncovered n lines next
uncovered_first n lines at next up_to is uncovered = record {
  below = is.is.below;
  candidate = is.is.candidate;
  uncovered = uncovered;
  first = λ Q lt candidate off.
      ⊎_elim
      (λ c. absurd (off c))
      (λ behind. is.first Q (record { below = lt; candidate = candidate; behind = behind }))
      (up_to Q lt candidate);
}

pub covered_all : (n : Net) (lines : List Line) (at : ℕ) → AreCoveredUpTo n lines at → IsLast n at → AllCovered n lines
covered_all n lines at up_to none C lt candidate =
    ⊎_elim (λ c. c) (λ behind. absurd (none C (record { below = lt; candidate = candidate; behind = behind }))) (up_to C lt candidate)
