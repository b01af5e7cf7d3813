-- What the threads of a program begin with.
use Rattle.std.specs.Prelude.{ℕ, ℤ, List, [], ◌∷◌, map, Some, None}
use Rattle.std.specs.declared.option.Option.{Option}
use Rattle.c_tree.specs.Bare.{Stmt, Stmts, Create}
use Rattle.c_tree.specs.Expressions.{Expr}
use Rattle.c_tree.specs.Lined.{Program, bare_program}
use Rattle.c_tree.specs.Numbering.{creations_of}
use Rattle.c_tree.specs.Values.{constant}
use Rattle.contexts.specs.Walk.{Walked}
use Rattle.rule_facts.specs.FromLast.{from_last}
use Rattle.context_items.specs.Flat.{FlatAbove, flat_above, flat_starts}
use Rattle.context_items.specs.Marks.{Mark}
use Rattle.context_walk.specs.declared.marks.Contexts.{Contexts}
use Rattle.context_walk.specs.Found.{contexts_of}

-- what a create statement begins: its start function and the argument
abbrev pub created : Stmt → Option (List ℕ × Expr)
created (Create slot function arg) = Some (function, arg)
created s = None

-- what the create statements of a list begin
abbrev pub begun_by : Stmts → List (List ℕ × List (Option ℤ))
begun_by ss = map (λ c. (c.function, constant c.arg ∷ [])) (creations_of ss)

-- what is known of all functions
abbrev pub all_above : Program → FlatAbove
all_above p = flat_above (bare_program p) (from_last p)

-- the walk of threads that begin so, behind what was found
abbrev pub begins : Program → List (List ℕ × List (Option ℤ)) → Contexts → Walked (List Mark)
begins p starts found = flat_starts (all_above p) starts (contexts_of found)
