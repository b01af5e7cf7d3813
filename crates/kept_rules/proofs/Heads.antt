-- What is declared outside functions but for the functions is the same of an edited program.
use Rattle.std.proofs.Common.{List, [], ap, false, inl, inr, refl, subst, sym, true, ℕ, ◌++◌, ◌∙◌, ◌∷◌, ◌≡◌}
use Rattle.std.specs.Prelude.{map}
use Rattle.std.proofs.lemmas.List.{map-append}
use Rattle.c_tree.specs.declared.program.Mode.{Mode}
use Rattle.c_tree.specs.Bare as bare
use Rattle.c_tree.specs.Lined.{Function, Program, bare_array, bare_cell, bare_object, bare_slot}
use Rattle.c_tree.specs.Lined as lined
use Rattle.c_rules.specs.Formed.{KeepsRules}
use Rattle.c_rules.specs.Names.{is_reserved}
use Rattle.c_rules.specs.Declarations.{Declaration, Thing, of_array, of_cell, of_condition, of_mutex, of_slot, outer}
use Rattle.c_rules.specs.Declarations as thing
use Rattle.c_rules.proofs.Members.{Image, In, contains_of, from_map, image, in_map, in_of}
use Rattle.rule_facts.proofs.Apart.{Declares, apart_join, apart_left, apart_split, names}
use Rattle.rule_facts.proofs.Fixed.{apart_kept, fixed, in_fixed, is_function, names_split, not_reserved, of_fixed}
use Rattle.rule_facts.specs.Apart.{Apart, function_names}
use Rattle.kept_rules.specs.Edit.{Way}
use Rattle.kept_rules.specs.Programs.{IsEditOf}

-- ---- names and things

pub record Head : Type 0 where
  pub name : List ℕ
  pub thing : Thing

abbrev pub head : Declaration → Head
head d = record { name = d.name; thing = d.thing }

abbrev bare_heads : List bare.Cell → List bare.Array → List bare.Object → List bare.Object → List bare.Slot → List Head
bare_heads ints arrays mutexes conds threads =
    map (λ (c : bare.Cell). record { name = c.name; thing = thing.Scalar }) ints ++ map (λ (a : bare.Array). record { name = a.name; thing = thing.Array }) arrays
    ++ map (λ (m : bare.Object). record { name = m.name; thing = thing.Mutex m.len }) mutexes ++ map (λ (c : bare.Object). record { name = c.name; thing = thing.Condition c.len }) conds
    ++ map (λ (t : bare.Slot). record { name = t.name; thing = thing.Thread t.len }) threads

two_maps : {A B C D : Type 0} (h : B → C) (g : A → B) (k : D → C) (m : A → D) → ((a : A) → h (g a) ≡ k (m a)) → (xs : List A) → map h (map g xs) ≡ map k (map m xs)
two_maps h g k m same [] = refl
two_maps h g k m same (x ∷ xs) = ap (λ z. z ∷ map h (map g xs)) (same x) ∙ ap (λ zs. k (m x) ∷ zs) (two_maps h g k m same xs)

five : {A B : Type 0} (h : A → B) (a b c d e : List A) → map h (a ++ b ++ c ++ d ++ e) ≡ map h a ++ map h b ++ map h c ++ map h d ++ map h e
five h a b c d e = simp map-append

heads_of_bare : (p : Program)
    → map head (fixed p) ≡ bare_heads (map bare_cell p.ints) (map bare_array p.arrays) (map bare_object p.mutexes) (map bare_object p.conds) (map bare_slot p.threads)
heads_of_bare p =
    let a = two_maps head of_cell (λ (c : bare.Cell). record { name = c.name; thing = thing.Scalar }) bare_cell (λ c. refl) p.ints in
    let b = two_maps head of_array (λ (c : bare.Array). record { name = c.name; thing = thing.Array }) bare_array (λ c. refl) p.arrays in
    let c = two_maps head of_mutex (λ (c : bare.Object). record { name = c.name; thing = thing.Mutex c.len }) bare_object (λ c. refl) p.mutexes in
    let d = two_maps head of_condition (λ (c : bare.Object). record { name = c.name; thing = thing.Condition c.len }) bare_object (λ c. refl) p.conds in
    let e = two_maps head of_slot (λ (c : bare.Slot). record { name = c.name; thing = thing.Thread c.len }) bare_slot (λ c. refl) p.threads in
    five head (map of_cell p.ints) (map of_array p.arrays) (map of_mutex p.mutexes) (map of_condition p.conds) (map of_slot p.threads) ∙ cc (a, b, c, d, e)

pub heads_same : (r : Way) (place : ℕ → ℕ) (q p : Program) → IsEditOf r place q p → map head (fixed q) ≡ map head (fixed p)
heads_same r place q p e =
    let a = e.declared.ints in let b = e.declared.arrays in let c = e.declared.mutexes in let d = e.declared.conds in let t = e.declared.threads in
    heads_of_bare q ∙ (cc (a, b, c, d, t) ∙ sym (heads_of_bare p))

-- a list of the same heads has a declaration of this name and thing
pub data Twin (ds : List Declaration) (d : Declaration) : Type 0 where
  twin : (e : Declaration) → In e ds → e.name ≡ d.name → e.thing ≡ d.thing → Twin ds d

pub twin_of : (xs ys : List Declaration) (d : Declaration) → map head xs ≡ map head ys → In d xs → Twin ys d
twin_of xs ys d e at = of (from_map head ys (head d) (subst (In (head d)) e (in_map head xs d at)))
  where
    of : Image head ys (head d) → Twin ys d
    of (image y among f) = Twin.twin y among (ap (λ (h : Head). h.name) f) (ap (λ (h : Head). h.thing) f)

-- what isn't a function is declared in both
pub declared_same_way : (r : Way) (place : ℕ → ℕ) (q p : Program) → IsEditOf r place q p → (n : List ℕ) (th : Thing) → is_function th ≡ false → Declares p n th → Declares q n th
declared_same_way r place q p e n th other (Declares.declares d at name is) =
    of (twin_of (fixed p) (fixed q) d (sym (heads_same r place q p e)) (in_fixed p d at (ap is_function is ∙ other)))
  where
    of : Twin (fixed q) d → Declares q n th
    of (Twin.twin y among a b) = Declares.declares y (of_fixed q y among) (a ∙ name) (b ∙ is)

-- ---- names differ

names_of_heads : (ds : List Declaration) → names ds ≡ map (λ (h : Head). h.name) (map head ds)
names_of_heads [] = refl
names_of_heads (d ∷ ds) = ap (λ ns. d.name ∷ ns) (names_of_heads ds)

pub fixed_names : (r : Way) (place : ℕ → ℕ) (q p : Program) → IsEditOf r place q p → names (fixed q) ≡ names (fixed p)
fixed_names r place q p e = names_of_heads (fixed q) ∙ (ap (map (λ (h : Head). h.name)) (heads_same r place q p e) ∙ sym (names_of_heads (fixed p)))

-- the names of an edited program differ
pub apart_edited : (r : Way) (place : ℕ → ℕ) (q p : Program) (mode : Mode) → IsEditOf r place q p → KeepsRules p mode → Apart (names (outer q))
apart_edited r place q p mode e keeps =
    let all : Apart (names (fixed p) ++ function_names p) = subst Apart (names_split p) (apart_kept p mode keeps) in
    subst Apart (sym (names_split q))
    (apart_join (names (fixed q)) (function_names q) (subst Apart (sym (fixed_names r place q p e)) (apart_left (names (fixed p)) (function_names p) all)) e.apart
    (λ n h k. by all n (subst (In n) (fixed_names r place q p e) h) (from_map (λ (f : lined.Function). f.name) q.functions n k)))
  where
    reserved_one : (n : List ℕ) → is_reserved n ≡ true → Image (λ (d : Declaration). d.name) (fixed p) n → ⊥
    reserved_one n is (image d among same) = not_reserved p mode keeps d among (ap is_reserved same ∙ is)

    by : Apart (names (fixed p) ++ function_names p) → (n : List ℕ) → In n (names (fixed p)) → Image (λ (f : lined.Function). f.name) q.functions n → ⊥
    by all n h (image g among same) = elim (e.fresh g (contains_of q.functions g among)) [
      | inl k ↦ apart_split (names (fixed p)) (function_names p) all n h (subst (λ m. In m (function_names p)) same (in_of (function_names p) g.name k))
      | inr is ↦ reserved_one n (ap is_reserved (sym same) ∙ is) (from_map (λ (d : Declaration). d.name) (fixed p) n h)
    ]
