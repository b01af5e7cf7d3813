-- The names of mutexes differ.
use Rattle.std.proofs.Common.{◌≡◌, ℕ, List, [], ◌∷◌, ◌++◌, refl, ap, subst}
use Rattle.std.specs.Prelude.{map}
use Rattle.std.proofs.lemmas.List.{map-append}
use Rattle.c_tree.specs.declared.program.Object.{Object}
use Rattle.c_tree.specs.Bare as bare
use Rattle.c_tree.specs.Lined.{Program, bare_object}
use Rattle.c_rules.specs.Declarations.{Declaration, of_cell, of_array, of_mutex, of_condition, of_slot}
use Rattle.rule_facts.specs.Apart.{Apart, outer_names, function_names}
use Rattle.rule_facts.proofs.Apart.{names, apart_left, apart_right}
use Rattle.rule_facts.proofs.Fixed.{fixed, names_split}

abbrev pub object_names : List bare.Object → List (List ℕ)
object_names os = map (λ (o : bare.Object). o.name) os

front : (xs ys : List Declaration) → Apart (names (xs ++ ys)) → Apart (names xs)
front xs ys a = apart_left (names xs) (names ys) (subst Apart (map-append (λ (d : Declaration). d.name) xs ys) a)

back : (xs ys : List Declaration) → Apart (names (xs ++ ys)) → Apart (names ys)
back xs ys a = apart_right (names xs) (names ys) (subst Apart (map-append (λ (d : Declaration). d.name) xs ys) a)

mutex_names : (os : List Object) → names (map of_mutex os) ≡ object_names (map bare_object os)
mutex_names [] = refl
mutex_names (o ∷ os) = ap (λ ns. o.name ∷ ns) (mutex_names os)

pub mutexes_apart : (p : Program) → Apart (outer_names p) → Apart (object_names (map bare_object p.mutexes))
mutexes_apart p apart =
    let cells = map of_cell p.ints in
    let arrays = map of_array p.arrays in
    let mutexes = map of_mutex p.mutexes in
    let conditions = map of_condition p.conds in
    let slots = map of_slot p.threads in
    let all : Apart (names (fixed p)) = apart_left (names (fixed p)) (function_names p) (subst Apart (names_split p) apart) in
    subst Apart (mutex_names p.mutexes)
    (back (cells ++ arrays) mutexes (front (cells ++ arrays ++ mutexes) conditions (front (cells ++ arrays ++ mutexes ++ conditions) slots all)))
