use Rattle.std.proofs.Common.{◌≡◌, ◌++◌, drop}
use Rattle.c_layout.specs.Layout.{text}
use Rattle.c_tree.specs.Lined.{stmts_of, bare_stmts}
use Rattle.c_canonical.specs.Statements.{statements}
use Rattle.c_print.proofs.statements.+statement.Given as goal

-- what is added and what is left make the whole
abbrev pub invariant-lines-loop-s : goal.invariant-lines-loop-s
invariant-lines-loop-s l =
    l.out.items ++ text (statements l.kind l.margin (bare_stmts (stmts_of (drop l.s-index l.ss))))
    ≡ l.fn.out.items ++ text (statements l.kind l.margin (bare_stmts (stmts_of l.ss)))
