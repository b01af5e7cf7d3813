use Rattle.std.proofs.Common.{ℕ, List, ◌∷◌, ◌++◌, refl}
use Rattle.c_layout.specs.Layout.{text}
use Rattle.c_layout.proofs.Readings.{text_append}
use Rattle.c_tree.specs.declared.expr.Expr.{Expr}
use Rattle.c_tree.specs.Expressions.{expr_of, exprs_of}
use Rattle.c_canonical.specs.Expressions.{expression, expressions, followed}
use Rattle.c_print.proofs.Loops.{turn, ended}
use Rattle.c_print.proofs.acts.following.Goals as goal

abbrev left : List Expr → List ℕ
left es = text (followed (expressions (exprs_of es)))

pub loop-e-preserved : goal.loop-e-preserved
loop-e-preserved c =
    turn left c.args.es.now c.loop-e.e-index c.e-item.result (44 ∷ 32 ∷ text (expression (expr_of c.e-item.result))) (c.args.out.now.items ++ left c.args.es.now)
    c.loop-e.out.items c.next_argument.new.out.items c.loop-e-test.true c.e-item.is (λ more. simp text_append) c.in_ok-next_argument.ensures c.loop-e.invariant

pub returns : goal.returns
returns c = ended left c.args.es.now c.loop-e.e-index (c.args.out.now.items ++ left c.args.es.now) c.loop-e.out.items c.loop-e-test.false refl c.loop-e.invariant
