use Rattle.std.proofs.Common.{◌≡◌, ◌++◌, drop}
use Rattle.c_layout.specs.Layout.{text}
use Rattle.c_tree.specs.Expressions.{exprs_of}
use Rattle.c_canonical.specs.Expressions.{expressions, followed}
use Rattle.c_print.proofs.acts.following.Given as goal

-- what is added and what is left make the whole
abbrev pub invariant-loop-e : goal.invariant-loop-e
invariant-loop-e l = l.out.items ++ text (followed (expressions (exprs_of (drop l.e-index l.es)))) ≡ l.fn.out.items ++ text (followed (expressions (exprs_of l.es)))
