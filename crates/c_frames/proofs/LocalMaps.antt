-- Locals as values beside names are the finite map of the names that have a value.
use Rattle.std.proofs.Common.{◌≡◌, ℕ, Bool, true, false, List, [], ◌∷◌, length, Option, Some, None, refl, sym, ap, ◌∙◌, arith}
use Rattle.std.specs.Prelude.{ℤ, if◌then◌else◌, bytes_eq, ◌||◌}
use Rattle.std.specs.List.{list_any}
use Rattle.std.specs.FinMap as finite
use Rattle.std.specs.Cmp.Lexicographic.{slice_cmp, nat_list_cmp_total}
use Rattle.std.specs.Ordering.{nat_cmp}
use Rattle.std.specs.FinMap.{slice_cmp-IsAntisymmetric, nat_cmp-IsAntisymmetric}
use Rattle.std.proofs.lemmas.Map.Text.{is_eq-slice_cmp}
use Rattle.c_meaning.specs.State.{Locals}
use Rattle.c_frames.specs.LocalValues.{locals_of, changed}
use Rattle.c_meaning.proofs.Reading.{same_bytes}

-- the value of a name
abbrev pub local_value : List (List ℕ) → List (Option ℤ) → List ℕ → Option ℤ
local_value [] values q = None
local_value (name ∷ names) [] q = None
local_value (name ∷ names) (value ∷ values) q = if bytes_eq q name then value else local_value names values q

-- the values where the first place of a name has another one
abbrev pub with_first : List (List ℕ) → List (Option ℤ) → List ℕ → Option ℤ → List (Option ℤ)
with_first [] values q v = values
with_first (name ∷ names) [] q v = []
with_first (name ∷ names) (value ∷ values) q v = if bytes_eq q name then v ∷ values else value ∷ with_first names values q v

get_changed : (m : Locals) (name : List ℕ) (v : Option ℤ) (q : List ℕ) → finite.get (changed m name v) q ≡ (if bytes_eq q name then v else finite.get m q)
get_changed m name (Some z) q = finite.get-insert nat_list_cmp_total m name z q ∙ ap (λ b. if b then Some z else finite.get m q) (is_eq-slice_cmp q name)
get_changed m name None q = finite.get-remove nat_list_cmp_total m name q ∙ ap (λ b. if b then None else finite.get m q) (is_eq-slice_cmp q name)

-- a name has the value beside its first place
pub get_locals : (names : List (List ℕ)) (values : List (Option ℤ)) (q : List ℕ) → finite.get (locals_of names values) q ≡ local_value names values q
get_locals [] values q = finite.get-empty (slice_cmp nat_cmp) q
get_locals (name ∷ names) [] q = finite.get-empty (slice_cmp nat_cmp) q
get_locals (name ∷ names) (Some z ∷ values) q =
    get_changed (locals_of names values) name (Some z) q ∙ ap (λ r. if bytes_eq q name then Some z else r) (get_locals names values q)
get_locals (name ∷ names) (None ∷ values) q =
    get_changed (locals_of names values) name None q ∙ ap (λ r. if bytes_eq q name then None else r) (get_locals names values q)

-- what is read after a change
pub value_after : (names : List (List ℕ)) (values : List (Option ℤ)) (q : List ℕ) (v : Option ℤ) (r : List ℕ) → list_any (bytes_eq q) names ≡ true → length values ≡ length names
    → local_value names (with_first names values q v) r ≡ (if bytes_eq r q then v else local_value names values r)
value_after [] values q v r there same = absurd (cc there)
value_after (name ∷ names) [] q v r there same = absurd (omega (arith, same))
value_after (name ∷ names) (value ∷ values) q v r there same = by (bytes_eq q name) refl there (λ more. value_after names values q v r more (omega (arith, same)))
  where
    later : (a b : Bool) → bytes_eq r name ≡ a → bytes_eq r q ≡ b → bytes_eq q name ≡ false
        → local_value names (with_first names values q v) r ≡ (if b then v else local_value names values r)
        → (if a then value else local_value names (with_first names values q v) r) ≡ (if b then v else (if a then value else local_value names values r))
    later true true ea eb not h =
        let clash : false ≡ true = sym not ∙ ap (λ x. bytes_eq x name) (sym (same_bytes r q eb)) ∙ ea in absurd (cc clash)
    later true false ea eb not h = refl
    later false b ea eb not h = h

    first : (a b : Bool) → bytes_eq r name ≡ a → bytes_eq r q ≡ b → bytes_eq q name ≡ true
        → (if a then v else local_value names values r) ≡ (if b then v else (if a then value else local_value names values r))
    first true true ea eb is = refl
    first true false ea eb is = let clash : true ≡ false = sym ea ∙ ap (bytes_eq r) (sym (same_bytes q name is)) ∙ eb in absurd (cc clash)
    first false true ea eb is = let clash : true ≡ false = sym eb ∙ ap (bytes_eq r) (same_bytes q name is) ∙ ea in absurd (cc clash)
    first false false ea eb is = refl

    by : (b : Bool) → bytes_eq q name ≡ b → list_any (bytes_eq q) (name ∷ names) ≡ true
        → (list_any (bytes_eq q) names ≡ true → local_value names (with_first names values q v) r ≡ (if bytes_eq r q then v else local_value names values r))
        → local_value (name ∷ names) (if b then v ∷ values else value ∷ with_first names values q v) r ≡ (if bytes_eq r q then v else local_value (name ∷ names) (value ∷ values) r)
    by true is found induction = first (bytes_eq r name) (bytes_eq r q) refl refl is
    by false is found induction =
        let more : list_any (bytes_eq q) names ≡ true = ap (λ x. x || list_any (bytes_eq q) names) (sym is) ∙ found in
        later (bytes_eq r name) (bytes_eq r q) refl refl is (induction more)

-- a change of a value is that change of the map
pub changed_locals : (names : List (List ℕ)) (values : List (Option ℤ)) (q : List ℕ) (v : Option ℤ) → list_any (bytes_eq q) names ≡ true → length values ≡ length names
    → locals_of names (with_first names values q v) ≡ changed (locals_of names values) q v
changed_locals names values q v there same = finite.same_map nat_list_cmp_total (slice_cmp-IsAntisymmetric nat_cmp-IsAntisymmetric) _ _
    (λ r. get_locals names (with_first names values q v) r ∙ value_after names values q v r there same
    ∙ ap (λ x. if bytes_eq r q then v else x) (sym (get_locals names values r)) ∙ sym (get_changed (locals_of names values) q v r))
