use Rattle.std.proofs.Common.{ap, ◌∙◌}
use Rattle.c_tree.specs.Expressions.{expr_of}
use Rattle.c_tree.specs.Lined.{stmt_of, stmts_of}
use Rattle.c_check.specs.Own.{list_acts}
use Rattle.c_check.proofs.Shown.{if_of, while_of, for_of}
use Rattle.c_check.proofs.Acting.{if_acts, while_acts, for_acts}
use Rattle.c_check.proofs.own.+acts.Goals as goal

pub acts-returns-in-If : goal.acts-returns-in-If
acts-returns-in-If t c =
    if_acts c.either.result c.list_acts.result c.list_acts-in-If.result (stmt_of c.args.s.now) c.args.s.now.line (expr_of c.in-If.test) (stmts_of c.in-If.then_arm) (stmts_of c.in-If.else_arm)
    (if_of c.args.s.now c.in-If.test c.in-If.then_arm c.in-If.else_arm c.in-If.is) c.either.ensures
    (c.list_acts.ensures ∙ ap (λ ss. list_acts (stmts_of ss)) c.as_slice.ensures) (c.list_acts-in-If.ensures ∙ ap (λ ss. list_acts (stmts_of ss)) c.as_slice-in-If.ensures)

pub acts-returns-in-While : goal.acts-returns-in-While
acts-returns-in-While t c =
    while_acts c.list_acts-in-While.result (stmt_of c.args.s.now) c.args.s.now.line (expr_of c.in-While.test) (stmts_of c.in-While.body)
    (while_of c.args.s.now c.in-While.test c.in-While.body c.in-While.is) (c.list_acts-in-While.ensures ∙ ap (λ ss. list_acts (stmts_of ss)) c.as_slice-in-While.ensures)

pub acts-returns-in-For : goal.acts-returns-in-For
acts-returns-in-For t c =
    for_acts c.either-in-For.result c.either-parts_act.result c.list_acts-in-For-3.result c.list_acts-in-For.result c.list_acts-in-For-2.result (stmt_of c.args.s.now) c.args.s.now.line
    (stmts_of c.in-For.first) (expr_of c.in-For.test) (stmts_of c.in-For.step) (stmts_of c.in-For.body)
    (for_of c.args.s.now c.in-For.first c.in-For.test c.in-For.step c.in-For.body c.in-For.is) c.either-parts_act.ensures c.either-in-For.ensures
    (c.list_acts-in-For-3.ensures ∙ ap (λ ss. list_acts (stmts_of ss)) c.as_slice-in-For-3.ensures)
    (c.list_acts-in-For.ensures ∙ ap (λ ss. list_acts (stmts_of ss)) c.as_slice-in-For.ensures)
    (c.list_acts-in-For-2.ensures ∙ ap (λ ss. list_acts (stmts_of ss)) c.as_slice-in-For-2.ensures)
