-- What is declared outside functions: functions, and what isn't one.
use Rattle.std.proofs.Common.{Bool, List, [], ap, false, inl, inr, refl, subst, sym, true, ℕ, ◌++◌, ◌+◌, ◌∙◌, ◌∷◌, ◌≡◌}
use Rattle.std.specs.Prelude.{filter, flat_map, map}
use Rattle.std.specs.List.{enumerate_from}
use Rattle.std.proofs.lemmas.List.{map-append}
use Rattle.c_tree.specs.declared.program.Mode.{Mode}
use Rattle.c_tree.specs.Lined.{Function, Program}
use Rattle.c_tree.specs.Lined as lined
use Rattle.c_rules.specs.declared.rule.Rule.TheVariants as rule
use Rattle.c_rules.specs.Formed.{KeepsRules}
use Rattle.c_rules.specs.Names.{is_reserved}
use Rattle.c_rules.specs.Naming.{Inner, declared_twice, inner, inner_pairs, is_taken_for, monitor_lines, outer_pairs, reserved}
use Rattle.c_rules.specs.Declarations.{Declaration, Thing, of_array, of_cell, of_condition, of_function, of_mutex, of_slot, outer}
use Rattle.c_rules.specs.Declarations as thing
use Rattle.c_rules.proofs.Members.{Image, In, contains_of, from_map, image, in_append_cases, in_append_left, in_append_right, in_filter, in_map}
use Rattle.rule_facts.proofs.Apart.{Declares, apart_of_pairs, names}
use Rattle.rule_facts.specs.Apart.{Apart, function_names}

abbrev pub fixed : Program → List Declaration
fixed p = map of_cell p.ints ++ map of_array p.arrays ++ map of_mutex p.mutexes ++ map of_condition p.conds ++ map of_slot p.threads

abbrev pub functions_of : Program → List Declaration
functions_of p = map of_function (enumerate_from 0 p.functions)

pub outer_parts : (p : Program) → fixed p ++ functions_of p ≡ outer p
outer_parts p = refl

-- ---- functions and others

abbrev pub is_function : Thing → Bool
is_function (thing.Function place f) = true
is_function th = false

other_in : {A : Type 0} (of : A → Declaration) (xs : List A) (d : Declaration) → ((a : A) → is_function (of a).thing ≡ false) → In d (map of xs) → is_function d.thing ≡ false
other_in of xs d others at = by (from_map of xs d at)
  where
    by : Image of xs d → is_function d.thing ≡ false
    by (image x among e) = subst (λ (y : Declaration). is_function y.thing ≡ false) e (others x)

pub fixed_other : (p : Program) (d : Declaration) → In d (fixed p) → is_function d.thing ≡ false
fixed_other p d at = elim (in_append_cases (map of_cell p.ints ++ map of_array p.arrays ++ map of_mutex p.mutexes ++ map of_condition p.conds) (map of_slot p.threads) d at) [
  | inr h ↦ other_in of_slot p.threads d (λ a. refl) h
  | inl k ↦ elim (in_append_cases (map of_cell p.ints ++ map of_array p.arrays ++ map of_mutex p.mutexes) (map of_condition p.conds) d k) [
    | inr h ↦ other_in of_condition p.conds d (λ a. refl) h
    | inl l ↦ elim (in_append_cases (map of_cell p.ints ++ map of_array p.arrays) (map of_mutex p.mutexes) d l) [
      | inr h ↦ other_in of_mutex p.mutexes d (λ a. refl) h
      | inl m ↦ elim (in_append_cases (map of_cell p.ints) (map of_array p.arrays) d m) [
        | inl h ↦ other_in of_cell p.ints d (λ a. refl) h
        | inr h ↦ other_in of_array p.arrays d (λ a. refl) h
      ]
    ]
  ]
]

pub in_fixed : (p : Program) (d : Declaration) → In d (outer p) → is_function d.thing ≡ false → In d (fixed p)
in_fixed p d at e = elim (in_append_cases (fixed p) (functions_of p) d (subst (In d) (sym (outer_parts p)) at)) [
  | inl h ↦ h
  | inr h ↦ absurd (by (from_map of_function (enumerate_from 0 p.functions) d h))
]
  where
    by : Image of_function (enumerate_from 0 p.functions) d → ⊥
    by (image f among same) = let k : true ≡ false = ap (λ (y : Declaration). is_function y.thing) same ∙ e in absurd (cc k)

pub of_fixed : (p : Program) (d : Declaration) → In d (fixed p) → In d (outer p)
of_fixed p d at = subst (In d) (outer_parts p) (in_append_left (fixed p) (functions_of p) d at)

pub of_functions : (p : Program) (f : ℕ × lined.Function) → In f (enumerate_from 0 p.functions) → In (of_function f) (outer p)
of_functions p f at = subst (In (of_function f)) (outer_parts p) (in_append_right (fixed p) (functions_of p) (of_function f) (in_map of_function (enumerate_from 0 p.functions) f at))

pub declares_function : (p : Program) (k : ℕ) (f : Function) (n : List ℕ) → In (k, f) (enumerate_from 0 p.functions) → f.name ≡ n → Declares p n (thing.Function k f)
declares_function p k f n at name = Declares.declares (of_function (k, f)) (of_functions p (k, f) at) name refl

-- ---- names differ

names_parts : (p : Program) → names (outer p) ≡ names (fixed p) ++ names (functions_of p)
names_parts p = ap names (sym (outer_parts p)) ∙ map-append (λ (d : Declaration). d.name) (fixed p) (functions_of p)

function_names_from : (k : ℕ) (fs : List lined.Function) → names (map of_function (enumerate_from k fs)) ≡ map (λ (f : lined.Function). f.name) fs
function_names_from k [] = refl
function_names_from k (f ∷ fs) = ap (λ ns. f.name ∷ ns) (function_names_from (k + 1) fs)

pub names_split : (p : Program) → names (outer p) ≡ names (fixed p) ++ function_names p
names_split p = names_parts p ∙ ap (λ ns. names (fixed p) ++ ns) (function_names_from 0 p.functions)

pub apart_kept : (p : Program) (mode : Mode) → KeepsRules p mode → Apart (names (outer p))
apart_kept p mode keeps = apart_of_pairs (outer p) (λ line h. keeps rule.Twice line (contains_of (declared_twice p) line (in_append_left (outer_pairs (outer p)) (flat_map (inner_pairs p) (inner p)) line h)))

pub taken : (mode : Mode) (n : List ℕ) (th : Thing) → is_function th ≡ false → is_taken_for mode n th ≡ is_reserved n
taken mode n (thing.Function place f) e = absurd (cc e)
taken mode n th e = refl

-- a name outside functions isn't reserved
pub not_reserved : (p : Program) (mode : Mode) → KeepsRules p mode → (d : Declaration) → In d (fixed p) → is_reserved d.name ≡ true → ⊥
not_reserved p mode keeps d at e =
    keeps rule.Reserved d.line (contains_of (reserved mode p) d.line
    (in_append_left (map (λ (d : Declaration). d.line) (filter (λ (d : Declaration). is_taken_for mode d.name d.thing) (outer p)) ++ map (λ (l : Inner). l.line) (filter (λ (l : Inner). is_reserved l.name) (inner p))) (monitor_lines mode p) d.line
    (in_append_left (map (λ (d : Declaration). d.line) (filter (λ (d : Declaration). is_taken_for mode d.name d.thing) (outer p))) (map (λ (l : Inner). l.line) (filter (λ (l : Inner). is_reserved l.name) (inner p))) d.line
    (in_map (λ (d : Declaration). d.line) (filter (λ (d : Declaration). is_taken_for mode d.name d.thing) (outer p)) d
    (in_filter (λ (d : Declaration). is_taken_for mode d.name d.thing) (outer p) d (of_fixed p d at) (taken mode d.name d.thing (fixed_other p d at) ∙ e))))))
