-- Declarations of which no two have one name, and what a name means among them.
use Rattle.std.proofs.Common.{Bool, List, [], ap, false, inl, inr, refl, subst, sym, true, ℕ, ◌++◌, ◌∙◌, ◌∷◌, ◌≡◌}
use Rattle.std.specs.Prelude.{None, Some, bytes_eq, if◌then◌else◌, map, max, nat_le, option_map}
use Rattle.std.proofs.lemmas.Slice.Eq.{bytes_eq-Decides}
use Rattle.std.specs.declared.option.Option.{Option}
use Rattle.c_tree.specs.Lined.{Program}
use Rattle.c_rules.specs.Naming.{outer_pairs}
use Rattle.c_rules.specs.Declarations.{Declaration, Thing, declaration_of, earlier, earliest, named, outer}
use Rattle.c_rules.proofs.Members.{Image, In, contains_of, from_filter, from_map, image, in_append_cases, in_append_left, in_append_right, in_filter, in_map, in_of}
use Rattle.rule_facts.specs.Apart.{Apart}

abbrev pub names : List Declaration → List (List ℕ)
names ds = map (λ (d : Declaration). d.name) ds

pub apart_of_pairs : (ds : List Declaration) → ((line : ℕ) → In line (outer_pairs ds) → ⊥) → Apart (names ds)
apart_of_pairs [] free = tt
apart_of_pairs (d ∷ ds) free = (
  λ h. first (from_map (λ (x : Declaration). x.name) ds d.name (in_of (names ds) d.name h)),
  apart_of_pairs ds (λ line k. free line (in_append_right (map (λ (x : Declaration). max d.line x.line) (named d.name ds)) (outer_pairs ds) line k)),
)
  where
    first : Image (λ (x : Declaration). x.name) ds d.name → ⊥
    first (image x at same) =
        free (max d.line x.line) (in_append_left (map (λ (y : Declaration). max d.line y.line) (named d.name ds)) (outer_pairs ds) (max d.line x.line)
        (in_map (λ (y : Declaration). max d.line y.line) (named d.name ds) x (in_filter (λ (y : Declaration). bytes_eq y.name d.name) ds x at ((bytes_eq-Decides x.name d.name).1 same))))

pub pairs_of_apart : (ds : List Declaration) → Apart (names ds) → (line : ℕ) → In line (outer_pairs ds) → ⊥
pairs_of_apart [] apart line at = absurd at
pairs_of_apart (d ∷ ds) apart line at = elim (in_append_cases (map (λ (x : Declaration). max d.line x.line) (named d.name ds)) (outer_pairs ds) line at) [
  | inl h ↦ first (from_map (λ (x : Declaration). max d.line x.line) (named d.name ds) line h)
  | inr h ↦ pairs_of_apart ds apart.1 line h
]
  where
    first : Image (λ (x : Declaration). max d.line x.line) (named d.name ds) line → ⊥
    first (image x among e) =
        let k = from_filter (λ (y : Declaration). bytes_eq y.name d.name) ds x among in
        apart.0 (contains_of (names ds) d.name (subst (λ n. In n (names ds)) ((bytes_eq-Decides x.name d.name).0 k.1) (in_map (λ (y : Declaration). y.name) ds x k.0)))

pub apart_join : (xs ys : List (List ℕ)) → Apart xs → Apart ys → ((n : List ℕ) → In n xs → In n ys → ⊥) → Apart (xs ++ ys)
apart_join [] ys ax ay free = ay
apart_join (x ∷ xs) ys ax ay free = (
  λ h. elim (in_append_cases xs ys x (in_of (xs ++ ys) x h)) [ inl k ↦ ax.0 (contains_of xs x k) | inr k ↦ free x (inl refl) k ],
  apart_join xs ys ax.1 ay (λ n h k. free n (inr h) k),
)

pub apart_left : (xs ys : List (List ℕ)) → Apart (xs ++ ys) → Apart xs
apart_left [] ys a = tt
apart_left (x ∷ xs) ys a = (λ h. a.0 (contains_of (xs ++ ys) x (in_append_left xs ys x (in_of xs x h))), apart_left xs ys a.1)

pub apart_right : (xs ys : List (List ℕ)) → Apart (xs ++ ys) → Apart ys
apart_right [] ys a = a
apart_right (x ∷ xs) ys a = apart_right xs ys a.1

pub apart_split : (xs ys : List (List ℕ)) → Apart (xs ++ ys) → (n : List ℕ) → In n xs → In n ys → ⊥
apart_split [] ys a n h k = absurd h
apart_split (x ∷ xs) ys a n (inl e) k = a.0 (contains_of (xs ++ ys) x (in_append_right xs ys x (subst (λ m. In m ys) (sym e) k)))
apart_split (x ∷ xs) ys a n (inr h) k = apart_split xs ys a.1 n h k

-- ---- what a name means

none_named : (n : List ℕ) (ds : List Declaration) → (In n (names ds) → ⊥) → named n ds ≡ []
none_named n [] free = refl
none_named n (d ∷ ds) free = go (none_named n ds (λ h. free (inr h))) (bytes_eq d.name n) refl
  where
    go : named n ds ≡ [] → (b : Bool) → bytes_eq d.name n ≡ b → (if b then d ∷ named n ds else named n ds) ≡ []
    go less true e = absurd (free (inl ((bytes_eq-Decides d.name n).0 e)))
    go less false e = less

pub found : (ds : List Declaration) (d : Declaration) → Apart (names ds) → In d ds → earliest (named d.name ds) ≡ Some d
found [] d apart at = absurd at
found (e ∷ es) d apart (inl same) = subst (λ (x : Declaration). earliest (named x.name (e ∷ es)) ≡ Some x) same first
  where
    first : earliest (named e.name (e ∷ es)) ≡ Some e
    first =
        ap (λ b. earliest (if b then e ∷ named e.name es else named e.name es)) ((bytes_eq-Decides e.name e.name).1 refl)
        ∙ ap (λ l. earliest (e ∷ l)) (none_named e.name es (λ h. apart.0 (contains_of (names es) e.name h)))
found (e ∷ es) d apart (inr at) = go (found es d apart.1 at) (bytes_eq e.name d.name) refl
  where
    go : earliest (named d.name es) ≡ Some d → (b : Bool) → bytes_eq e.name d.name ≡ b → earliest (if b then e ∷ named d.name es else named d.name es) ≡ Some d
    go less true same = absurd (apart.0 (contains_of (names es) e.name (subst (λ n. In n (names es)) (sym ((bytes_eq-Decides e.name d.name).0 same)) (in_map (λ (x : Declaration). x.name) es d at))))
    go less false same = less

earliest_in : (ds : List Declaration) (d : Declaration) → earliest ds ≡ Some d → In d ds
earliest_in [] d e = absurd (cc e)
earliest_in (x ∷ xs) d e = go (earliest_in xs d) (earliest xs) refl (cc e)
  where
    either : (earliest xs ≡ Some d → In d xs) → (y : Declaration) → earliest xs ≡ Some y → (b : Bool) → (if b then x else y) ≡ d → In d (x ∷ xs)
    either less y is true f = inl f
    either less y is false f = inr (less (is ∙ ap (λ z. Some z) f))

    go : (earliest xs ≡ Some d → In d xs) → (o : Option Declaration) → earliest xs ≡ o → earlier x o ≡ d → In d (x ∷ xs)
    go less None is f = inl f
    go less (Some y) is f = either less y is (nat_le x.line y.line) f

-- a declaration outside functions
pub data Declares (p : Program) (n : List ℕ) (th : Thing) : Type 0 where
  declares : (d : Declaration) → In d (outer p) → d.name ≡ n → d.thing ≡ th → Declares p n th

pub thing_declared : (p : Program) (n : List ℕ) (th : Thing) → option_map (λ (d : Declaration). d.thing) (declaration_of p n) ≡ Some th → Declares p n th
thing_declared p n th e = go (declaration_of p n) refl e
  where
    go : (o : Option Declaration) → declaration_of p n ≡ o → option_map (λ (d : Declaration). d.thing) o ≡ Some th → Declares p n th
    go None is f = absurd (cc f)
    go (Some d) is f =
        let k = from_filter (λ (x : Declaration). bytes_eq x.name n) (outer p) d (earliest_in (named n (outer p)) d is) in
        Declares.declares d k.0 ((bytes_eq-Decides d.name n).0 k.1) (cc f)

pub declared_thing : (p : Program) (n : List ℕ) (th : Thing) → Apart (names (outer p)) → Declares p n th → option_map (λ (d : Declaration). d.thing) (declaration_of p n) ≡ Some th
declared_thing p n th apart (Declares.declares d at name thing) =
    subst (λ m. option_map (λ (x : Declaration). x.thing) (declaration_of p m) ≡ Some th) name
    (ap (option_map (λ (x : Declaration). x.thing)) (found (outer p) d apart at) ∙ ap (λ t. Some t) thing)
