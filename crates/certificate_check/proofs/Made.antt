-- Certificates of the first lines of minimal sets.
use Rattle.std.proofs.Common.{◌≡◌, ℕ, zero, suc, List, [], ◌∷◌, map, Some, refl, sym, ap, ◌∙◌, subst, arith}
use Rattle.std.specs.Prelude.{slice_get, option_map}
use Rattle.std.proofs.lemmas.Option.{same_Some, slice_get_within, slice_get-map}
use Rattle.certificate.specs.declared.Line.{Line}
use Rattle.net_laws.specs.Net.{Net, IsNet}
use Rattle.net_laws.specs.Candidates.{IsMinimal, members}
use Rattle.net_laws.specs.Lines.{Holds, LineHolds}
use Rattle.gadara_net.specs.Bounds.{general_of}
use Rattle.gadara_net.proofs.Generals.{general_holds}
use Rattle.certificate_check.specs.Judged.{AllHold}
use Rattle.certificate_check.specs.Making.{HaveMinimalSets, AreFirstLines}
use Rattle.certificate_check.proofs.Covered.{element_at}

-- the line holds for this set
abbrev HoldsFor : Net → ℕ → Line → Type 0
HoldsFor n r l = LineHolds n (members r) l.kind

-- first lines hold
pub first_hold : (n : Net) (sets : List ℕ) (lines : List Line) → AreFirstLines n sets lines → AllHold n lines
first_hold n sets lines are k l at =
    let C = element_at sets k (omega (arith, slice_get_within lines k l at, are.each)) in
    let first = are.first k C.0 l C.1 at in
    subst (λ r. HoldsFor n r l) (sym first.0) first.1.holds

-- each minimal set has its line
pub first_of_minimal : (n : Net) (sets : List ℕ) (lines : List Line) → HaveMinimalSets n sets → AreFirstLines n sets lines → (C : ℕ) → IsMinimal n C → (k : ℕ) × (l : Line) × (slice_get lines k ≡ Some l) × (l.resources ≡ C)
first_of_minimal n sets lines have are C minimal =
    let at = have C minimal in
    let l = element_at lines at.0 (omega (arith, slice_get_within sets at.0 C at.1, are.each)) in
    (at.0, l.0, l.1, (are.first at.0 C l.0 at.1 l.1).0)

mapped : {X Y : Type 0} (f : X → Y) (xs : List X) (k : ℕ) (y : Y) → slice_get (map f xs) k ≡ Some y → (x : X) × (slice_get xs k ≡ Some x) × (y ≡ f x)
mapped f [] k y at = absurd (cc at)
mapped f (x ∷ xs) zero y at = (x, refl, sym (same_Some (f x) y at))
mapped f (x ∷ xs) (suc k) y at = mapped f xs k y at

-- the general lines of lines that hold, hold
pub general_hold : (n : Net) (lines : List Line) → IsNet n → AllHold n lines → AllHold n (map (general_of n) lines)
general_hold n lines net hold k l at =
    let x = mapped (general_of n) lines k l at in
    subst (Holds n) (sym x.2) (general_holds n (members x.0.resources) x.0.kind net (hold k x.0 x.1))

-- and they are for the same sets
pub general_of_minimal : (n : Net) (lines : List Line) (C : ℕ) → ((k : ℕ) × (l : Line) × (slice_get lines k ≡ Some l) × (l.resources ≡ C)) → (k : ℕ) × (l : Line) × (slice_get (map (general_of n) lines) k ≡ Some l) × (l.resources ≡ C)
general_of_minimal n lines C has =
    (has.0, general_of n has.1, slice_get-map (general_of n) lines has.0 ∙ ap (option_map (general_of n)) has.2, has.3)
