use Rattle.std.proofs.Common.{rules, ap, ◌∙◌}
use Rattle.c_tree.specs.Expressions.{expr_of, value_of, place_of}
use Rattle.c_tree.specs.Lined.{stmt_of, stmts_of}
use Rattle.c_names.specs.Tables.{in_scope}
use Rattle.c_acts.specs.First.{noted_all}
use Rattle.c_acts.specs.Uses.{around}
use Rattle.c_acts.specs.Acts.{declare_breaks, entered}
use Rattle.c_check.proofs.Shown.{declare_of, if_of, while_of, for_of, try_of}
use Rattle.c_check.proofs.Walks.{declare_stmt, declare_scope, if_stmt, try_stmt, while_stmt, for_stmt, same_scope, list_turn, scope_turn, scope_end, still_there}
use Rattle.c_check.proofs.walk.+walk.Goals as goal

pub check_nest-returns-in_ok-check_list-in-If-2-clause-breaks : goal.check_nest-returns-in_ok-check_list-in-If-2-clause-breaks
check_nest-returns-in_ok-check_list-in-If-2-clause-breaks t c =
    let k1 = c.in_ok-check_list-in-If.ensures.scoped in
    let k2 = c.in_ok-check_list-in-If-2.ensures.scoped in
    if_stmt (around c.args.at.now) (in_scope c.args.scope.now) (in_scope c.check_list.new.scope) (in_scope c.check_list-in-If.new.scope) c.args.late
    c.args.first.now c.check_list.new.first c.check_list-in-If.new.first c.check_expr.new.first (stmt_of c.args.s.now) c.args.s.now.line
    (expr_of c.in-If.test) (stmts_of c.in-If.then_arm) (stmts_of c.in-If.else_arm) (if_of c.args.s.now c.in-If.test c.in-If.then_arm c.in-If.else_arm c.in-If.is)
    (same_scope _ _ k1) (same_scope _ _ (k2 ∙ k1)) (search rules) (search rules) (search rules)

pub check_nest-returns-in_ok-check_list-in-While-clause-breaks : goal.check_nest-returns-in_ok-check_list-in-While-clause-breaks
check_nest-returns-in_ok-check_list-in-While-clause-breaks t c =
    while_stmt (around c.args.at.now) (in_scope c.args.scope.now) (in_scope c.check_list-in-While.new.scope) c.args.late
    c.args.first.now c.check_list-in-While.new.first c.check_expr-in-While.new.first (stmt_of c.args.s.now) c.args.s.now.line
    (expr_of c.in-While.test) (stmts_of c.in-While.body) (while_of c.args.s.now c.in-While.test c.in-While.body c.in-While.is)
    (same_scope _ _ c.in_ok-check_list-in-While.ensures.scoped) (search rules) (search rules)

pub check_nest-returns-in_ok-check_list-in-For-2-clause-breaks : goal.check_nest-returns-in_ok-check_list-in-For-2-clause-breaks
check_nest-returns-in_ok-check_list-in-For-2-clause-breaks t c =
    for_stmt (around c.args.at.now) (in_scope c.args.scope.now) (in_scope c.check_open.new.scope) (in_scope c.check_list-in-For.new.scope) (in_scope c.check_list-in-For-2.new.scope)
    c.args.late c.args.first.now c.check_open.new.first c.check_list-in-For.new.first c.check_list-in-For-2.new.first c.check_expr-in-For.new.first
    (stmt_of c.args.s.now) c.args.s.now.line (stmts_of c.in-For.part) (expr_of c.in-For.test) (stmts_of c.in-For.step) (stmts_of c.in-For.body)
    (for_of c.args.s.now c.in-For.part c.in-For.test c.in-For.step c.in-For.body c.in-For.is)
    (search rules) (same_scope _ _ c.in_ok-check_list-in-For.ensures.scoped) (same_scope _ _ c.in_ok-check_list-in-For-2.ensures.scoped)
    (search rules) (search rules) (search rules) (search rules)

pub check_nest-returns-in_ok-check_list-in-TryLock-2-clause-breaks : goal.check_nest-returns-in_ok-check_list-in-TryLock-2-clause-breaks
check_nest-returns-in_ok-check_list-in-TryLock-2-clause-breaks t c =
    let k1 = c.in_ok-check_list-in-TryLock.ensures.scoped in
    let k2 = c.in_ok-check_list-in-TryLock-2.ensures.scoped in
    try_stmt (around c.args.at.now) (in_scope c.args.scope.now) (in_scope c.check_list-in-TryLock.new.scope) (in_scope c.check_list-in-TryLock-2.new.scope) c.args.late
    c.args.first.now c.check_list-in-TryLock.new.first c.check_list-in-TryLock-2.new.first c.check_place.new.first (stmt_of c.args.s.now) c.args.s.now.line
    (place_of c.in-TryLock.place) (stmts_of c.in-TryLock.taken) (stmts_of c.in-TryLock.busy) (try_of c.args.s.now c.in-TryLock.place c.in-TryLock.taken c.in-TryLock.busy c.in-TryLock.is)
    (same_scope _ _ k1) (same_scope _ _ (k2 ∙ k1)) (search rules) (search rules) (search rules)

pub check_open-loop-s-preserved : goal.check_open-loop-s-preserved
check_open-loop-s-preserved t c = record {
  breaks = list_turn (around c.args.at.now) c.args.late c.args.ss.now c.loop-s.s-index c.s-item.result (in_scope c.loop-s.scope) (in_scope c.check_stmt.new.scope)
      c.loop-s.first c.check_stmt.new.first _ c.loop-s-test.true c.s-item.is c.in_ok-check_stmt.ensures.scoped c.in_ok-check_stmt.ensures.breaks c.loop-s.invariant.breaks;
  scoped = scope_turn c.args.ss.now c.loop-s.s-index c.s-item.result (in_scope c.loop-s.scope) (in_scope c.check_stmt.new.scope) _ c.loop-s-test.true c.s-item.is
      c.in_ok-check_stmt.ensures.scoped c.loop-s.invariant.scoped;
  behind = still_there c.args.scope.now.keys c.loop-s.scope.keys c.check_stmt.new.scope.keys c.loop-s.invariant.behind c.in_ok-check_stmt.ensures.behind;
}

pub check_open-returns-clause-scoped : goal.check_open-returns-clause-scoped
check_open-returns-clause-scoped t c = scope_end c.args.ss.now c.loop-s.s-index (in_scope c.loop-s.scope) _ c.loop-s-test.false c.loop-s.invariant.scoped

pub check_stmt-returns-in_ok-check_declare-in-Declare-clause-breaks : goal.check_stmt-returns-in_ok-check_declare-in-Declare-clause-breaks
check_stmt-returns-in_ok-check_declare-in-Declare-clause-breaks t c =
    declare_stmt (around c.args.at.now) (in_scope c.args.scope.now) c.args.unfixed c.args.late c.args.first.now c.check_declare.new.first (stmt_of c.args.s.now) c.args.s.now.line
    c.in-Declare.name (value_of c.in-Declare.value) (declare_of c.args.s.now c.in-Declare.name c.in-Declare.value c.in-Declare.is) (
    c.in_ok-check_declare-in-Declare.ensures.breaks
    ∙ ap (λ n. noted_all c.args.first.now (declare_breaks (around c.args.at.now) (in_scope c.args.scope.now) c.args.s.now.line n (value_of c.in-Declare.value))) c.as_slice.ensures)

pub check_stmt-returns-in_ok-check_declare-in-Declare-clause-scoped : goal.check_stmt-returns-in_ok-check_declare-in-Declare-clause-scoped
check_stmt-returns-in_ok-check_declare-in-Declare-clause-scoped t c =
    declare_scope (in_scope c.args.scope.now) (in_scope c.check_declare.new.scope) (stmt_of c.args.s.now) c.args.s.now.line
    c.in-Declare.name (value_of c.in-Declare.value) (declare_of c.args.s.now c.in-Declare.name c.in-Declare.value c.in-Declare.is) (
    c.in_ok-check_declare-in-Declare.ensures.scoped ∙ ap (λ n. entered n (in_scope c.args.scope.now)) c.as_slice.ensures)
