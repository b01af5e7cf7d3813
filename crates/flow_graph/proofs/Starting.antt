-- The threads that create statements begin.
use Rattle.std.proofs.Common.{◌≡◌, ℕ, List, ◌∷◌, map, refl, sym, ap, ◌∙◌, Some, None}
use Rattle.std.specs.Prelude.{true, Bool, ℤ, []}
use Rattle.std.specs.declared.option.Option.{Option}
use Rattle.std.proofs.lemmas.Simd.{map-map}
use Rattle.c_tree.specs.Bare.{Stmt, Stmts, Nil, Cons, Create}
use Rattle.c_tree.specs.Lined.{Program, bare_program}
use Rattle.c_tree.specs.Numbering.{creations, creations_of, main_name, Creation}
use Rattle.c_tree.specs.Values.{constant}
use Rattle.contexts.specs.Outlines.{starts}
use Rattle.rule_facts.specs.FromLast.{StartsNamed}
use Rattle.flow_graph.specs.Walking.{created_names, started}

some_same : (a b : List ℕ) → ◌≡◌ {A = Option (List ℕ)} (Some a) (Some b) → a ≡ b
some_same a b e = cc e

pub created_first : (s : Stmt) (name : List ℕ) → started s ≡ Some name → (more : Stmts) → created_names (Cons s more) ≡ name ∷ created_names more
created_first (Create slot function given) name is more = ap (λ f. f ∷ created_names more) (some_same function name is)
created_first s name is more = absurd (cc is)

pub created_same : (s : Stmt) → started s ≡ None → (more : Stmts) → created_names (Cons s more) ≡ created_names more
created_same (Create slot function given) is more = absurd (cc is)
created_same s is more = refl

pub started_named : (named : List ℕ → Bool) (s : Stmt) (name : List ℕ) → started s ≡ Some name → StartsNamed named (creations_of (Cons s Nil)) → named name ≡ true
started_named named (Create slot function given) name is ok = ap named (sym (some_same function name is)) ∙ ok.0
started_named named s name is ok = absurd (cc is)

-- main and those that it creates
pub start_names : (p : Program) → map (λ (s : List ℕ × List (Option ℤ)). s.0) (starts p) ≡ main_name ∷ map (λ (c : Creation). c.function) (creations (bare_program p))
start_names p = ap (λ names. main_name ∷ names) (map-map (λ (s : List ℕ × List (Option ℤ)). s.0) (λ (c : Creation). (c.function, constant c.arg ∷ [])) (creations (bare_program p)))
