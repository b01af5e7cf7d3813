use Rattle.c_tree.specs.Expressions.{expr_of, exprs_of}
use Rattle.c_rules.specs.Uses.{of_expr, of_exprs}
use Rattle.c_names.specs.Tables.{in_scope}
use Rattle.c_acts.specs.Uses.{around, use_breaks, uses_breaks}
use Rattle.c_acts.specs.First.{noted_all}
use Rattle.c_acts.proofs.Noted.{flat_append}
use Rattle.c_acts.proofs.Loops.{turn}
use Rattle.c_acts.proofs.uses.check_exprs.Goals as goal

pub loop-e-preserved : goal.loop-e-preserved
loop-e-preserved c =
    let a = around c.args.at.now in
    let inside = in_scope c.args.scope.now in
    let line = c.args.line in
    turn (λ es. uses_breaks a inside line (of_exprs (exprs_of es))) c.args.es.now c.loop-e.e-index c.e-item.result (uses_breaks a inside line (of_expr (expr_of c.e-item.result)))
    (noted_all c.args.first.now (uses_breaks a inside line (of_exprs (exprs_of c.args.es.now)))) c.loop-e.first c.check_expr.new.first
    c.loop-e-test.true c.e-item.is (λ more. flat_append (use_breaks a inside line) (of_expr (expr_of c.e-item.result)) (of_exprs (exprs_of more))) c.check_expr.ensures c.loop-e.invariant
