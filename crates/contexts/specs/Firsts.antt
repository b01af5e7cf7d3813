-- The first parts of loops, as the grammar has them.
use Rattle.std.specs.Prelude.{ℕ, ⊤}
use Rattle.c_tree.specs.Bare as bare
use Rattle.c_tree.specs.Bare.{Stmt, Stmts, Nil, Cons}
use Rattle.c_tree.specs.Everywhere.{Everywhere}
use Rattle.c_tree.specs.Lined.{Function, Program, bare_stmts}
use Rattle.rule_facts.specs.Apart.{Listed}

-- the first part of a `for` is nothing, a declaration or an assignment
abbrev pub FirstFits : Stmts → Type 0
FirstFits Nil = ⊤
FirstFits (Cons (bare.Declare name e) Nil) = ⊤
FirstFits (Cons (bare.Assign target e) Nil) = ⊤
FirstFits ss = ⊥

abbrev pub ForFits : Stmt → Type 0
ForFits (bare.For first_part test step body) = FirstFits first_part
ForFits s = ⊤

-- so of each `for` of a program
abbrev pub HasFirstParts : Program → Type 0
HasFirstParts p = (f : ℕ × Function) → Listed p f → Everywhere ForFits (bare_stmts f.1.body)
