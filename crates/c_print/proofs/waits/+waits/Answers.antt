use Rattle.std.proofs.Common.{ap, ◌∙◌}
use Rattle.c_tree.specs.Expressions.{expr_of, place_of}
use Rattle.c_tree.specs.Lined.{stmt_of, stmts_of, bare_stmt, bare_stmts}
use Rattle.c_canonical.specs.Waits.{any_waits}
use Rattle.c_print.proofs.Shown.{if_of, try_lock_of, while_of, for_of}
use Rattle.c_print.proofs.Waiting.{if_waits, try_lock_waits, while_waits, for_waits}
use Rattle.c_print.proofs.waits.+waits.Goals as goal

pub waits-returns-in-If : goal.waits-returns-in-If
waits-returns-in-If t c =
    if_waits c.either.result c.any_waits.result c.any_waits-in-If.result (bare_stmt (stmt_of c.args.s.now)) (expr_of c.in-If.test) (bare_stmts (stmts_of c.in-If.then_arm)) (bare_stmts (stmts_of c.in-If.else_arm))
    (if_of c.args.s.now c.in-If.test c.in-If.then_arm c.in-If.else_arm c.in-If.is) c.either.ensures
    (c.any_waits.ensures ∙ ap (λ ss. any_waits (bare_stmts (stmts_of ss))) c.as_slice.ensures) (c.any_waits-in-If.ensures ∙ ap (λ ss. any_waits (bare_stmts (stmts_of ss))) c.as_slice-in-If.ensures)

pub waits-returns-in-TryLock : goal.waits-returns-in-TryLock
waits-returns-in-TryLock t c =
    try_lock_waits c.either-in-TryLock.result c.any_waits-in-TryLock.result c.any_waits-in-TryLock-2.result (bare_stmt (stmt_of c.args.s.now)) (place_of c.in-TryLock.place) (bare_stmts (stmts_of c.in-TryLock.taken)) (bare_stmts (stmts_of c.in-TryLock.busy))
    (try_lock_of c.args.s.now c.in-TryLock.place c.in-TryLock.taken c.in-TryLock.busy c.in-TryLock.is) c.either-in-TryLock.ensures
    (c.any_waits-in-TryLock.ensures ∙ ap (λ ss. any_waits (bare_stmts (stmts_of ss))) c.as_slice-in-TryLock.ensures) (c.any_waits-in-TryLock-2.ensures ∙ ap (λ ss. any_waits (bare_stmts (stmts_of ss))) c.as_slice-in-TryLock-2.ensures)

pub waits-returns-in-While : goal.waits-returns-in-While
waits-returns-in-While t c =
    while_waits c.any_waits-in-While.result (bare_stmt (stmt_of c.args.s.now)) (expr_of c.in-While.test) (bare_stmts (stmts_of c.in-While.body))
    (while_of c.args.s.now c.in-While.test c.in-While.body c.in-While.is) (c.any_waits-in-While.ensures ∙ ap (λ ss. any_waits (bare_stmts (stmts_of ss))) c.as_slice-in-While.ensures)

pub waits-returns-in-For : goal.waits-returns-in-For
waits-returns-in-For t c =
    for_waits c.either-in-For.result c.either-parts_wait.result c.any_waits-in-For-3.result c.any_waits-in-For.result c.any_waits-in-For-2.result (bare_stmt (stmt_of c.args.s.now))
    (bare_stmts (stmts_of c.in-For.first)) (expr_of c.in-For.test) (bare_stmts (stmts_of c.in-For.step)) (bare_stmts (stmts_of c.in-For.body))
    (for_of c.args.s.now c.in-For.first c.in-For.test c.in-For.step c.in-For.body c.in-For.is) c.either-parts_wait.ensures c.either-in-For.ensures
    (c.any_waits-in-For-3.ensures ∙ ap (λ ss. any_waits (bare_stmts (stmts_of ss))) c.as_slice-in-For-3.ensures)
    (c.any_waits-in-For.ensures ∙ ap (λ ss. any_waits (bare_stmts (stmts_of ss))) c.as_slice-in-For.ensures)
    (c.any_waits-in-For-2.ensures ∙ ap (λ ss. any_waits (bare_stmts (stmts_of ss))) c.as_slice-in-For-2.ensures)
