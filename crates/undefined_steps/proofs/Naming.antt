-- Objects are found by their names, which differ.
use Rattle.std.proofs.Common.{◌≡◌, ℕ, Bool, true, false, List, [], ◌∷◌, ◌++◌, map, Some, inl, inr, refl, sym, ap, ◌∙◌, subst}
use Rattle.std.specs.Prelude.{bytes_eq, find, if◌then◌else◌}
use Rattle.std.specs.List.{enumerate_from}
use Rattle.std.proofs.lemmas.List.{map-append}
use Rattle.std.proofs.lemmas.Slice.Eq.{bytes_eq-Decides}
use Rattle.c_tree.specs.declared.program.Object as declared_object
use Rattle.c_tree.specs.Bare as bare
use Rattle.c_tree.specs.Lined.{Program, bare_object}
use Rattle.c_rules.specs.Declarations.{Declaration, of_cell, of_array, of_mutex, of_condition, of_slot, of_function, outer}
use Rattle.c_rules.proofs.Members.{In, in_map, contains_of}
use Rattle.rule_facts.specs.Apart.{Apart}
use Rattle.rule_facts.proofs.Apart.{names, apart_left, apart_right}

-- ---- objects

-- an object is found by its name where no two have one
find_object : (os : List bare.Object) (o : bare.Object) (name : List ℕ) → Apart (map (λ (x : bare.Object). x.name) os) → In o os → o.name ≡ name
    → find (λ (x : bare.Object). bytes_eq x.name name) os ≡ Some o
find_object [] o name apart at named = absurd at
find_object (x ∷ os) o name apart (inl same) named =
    ap (λ b. if b then Some x else find (λ (y : bare.Object). bytes_eq y.name name) os) ((bytes_eq-Decides x.name name).1 (ap (λ (y : bare.Object). y.name) same ∙ named)) ∙ ap (λ y. Some y) same
find_object (x ∷ os) o name apart (inr at) named = by (bytes_eq x.name name) refl (find_object os o name apart.1 at named)
  where
    by : (b : Bool) → bytes_eq x.name name ≡ b → find (λ (y : bare.Object). bytes_eq y.name name) os ≡ Some o
        → (if b then Some x else find (λ (y : bare.Object). bytes_eq y.name name) os) ≡ Some o
    by false here later = later
    by true here later =
        let same : o.name ≡ x.name = named ∙ sym ((bytes_eq-Decides x.name name).0 here) in
        absurd (apart.0 (contains_of (map (λ (y : bare.Object). y.name) os) x.name (subst (λ n. In n (map (λ (y : bare.Object). y.name) os)) same (in_map (λ (y : bare.Object). y.name) os o at))))

front : (xs ys : List Declaration) → Apart (names (xs ++ ys)) → Apart (names xs)
front xs ys apart = apart_left (names xs) (names ys) (subst Apart (map-append (λ (d : Declaration). d.name) xs ys) apart)

back : (xs ys : List Declaration) → Apart (names (xs ++ ys)) → Apart (names ys)
back xs ys apart = apart_right (names xs) (names ys) (subst Apart (map-append (λ (d : Declaration). d.name) xs ys) apart)

mutex_names : (os : List declared_object.Object) → names (map of_mutex os) ≡ map (λ (x : bare.Object). x.name) (map bare_object os)
mutex_names [] = refl
mutex_names (o ∷ os) = ap (λ ns. o.name ∷ ns) (mutex_names os)

condition_names : (os : List declared_object.Object) → names (map of_condition os) ≡ map (λ (x : bare.Object). x.name) (map bare_object os)
condition_names [] = refl
condition_names (o ∷ os) = ap (λ ns. o.name ∷ ns) (condition_names os)

module _ (p : Program) (apart : Apart (names (outer p))) where
  without_slots : Apart (names (map of_cell p.ints ++ map of_array p.arrays ++ map of_mutex p.mutexes ++ map of_condition p.conds))
  without_slots =
      front (map of_cell p.ints ++ map of_array p.arrays ++ map of_mutex p.mutexes ++ map of_condition p.conds) (map of_slot p.threads)
      (front (map of_cell p.ints ++ map of_array p.arrays ++ map of_mutex p.mutexes ++ map of_condition p.conds ++ map of_slot p.threads) (map of_function (enumerate_from 0 p.functions)) apart)

  pub find_mutex : (o : bare.Object) (name : List ℕ) → In o (map bare_object p.mutexes) → o.name ≡ name → find (λ (x : bare.Object). bytes_eq x.name name) (map bare_object p.mutexes) ≡ Some o
  find_mutex o name at named = find_object (map bare_object p.mutexes) o name
      (subst Apart (mutex_names p.mutexes) (back (map of_cell p.ints ++ map of_array p.arrays) (map of_mutex p.mutexes)
      (front (map of_cell p.ints ++ map of_array p.arrays ++ map of_mutex p.mutexes) (map of_condition p.conds) without_slots))) at named

  pub find_condition : (o : bare.Object) (name : List ℕ) → In o (map bare_object p.conds) → o.name ≡ name → find (λ (x : bare.Object). bytes_eq x.name name) (map bare_object p.conds) ≡ Some o
  find_condition o name at named = find_object (map bare_object p.conds) o name
      (subst Apart (condition_names p.conds) (back (map of_cell p.ints ++ map of_array p.arrays ++ map of_mutex p.mutexes) (map of_condition p.conds) without_slots)) at named
