use Rattle.std.proofs.Common.{◌++◌, ◌∙◌, codes, refl, sym, arith, rules}
use Rattle.std.proofs.lemmas.Grind.{common_steps}
use Rattle.c_layout.specs.Layout.{text}
use Rattle.c_tree.specs.Expressions.{expr_of, place_of}
use Rattle.c_tree.specs.Lined.{stmt_of, stmts_of, bare_stmt, bare_stmts}
use Rattle.c_canonical.specs.Statements.{block, deeper, statement, statements, otherwise}
use Rattle.c_print.proofs.Chains.{chain2}
use Rattle.c_print.proofs.Loops.{ended}
use Rattle.c_print.proofs.BlockTexts.{block_text, if_text, try_lock_text, while_text, for_text, chained, braced, lines_of, line_text}
use Rattle.c_print.proofs.Shown.{if_of, try_lock_of, while_of, for_of}
use Rattle.c_print.proofs.statements.+statement.Goals as goal

pub block-returns : goal.block-returns
block-returns t c =
    block_text c.args.out.now.items c.put.new.out.items c.lines.new.out.items c.put-2.new.out.items c.put-3.new.out.items c.args.margin.now
    (statements c.args.kind (deeper c.args.margin.now) (bare_stmts (stmts_of c.args.ss.now)))
    c.in_ok-put.ensures (first_of (search rules, grind (arith, common_steps))) c.in_ok-put-2.ensures c.in_ok-put-3.ensures

pub otherwise-returns : goal.otherwise-returns
otherwise-returns t c =
    chain2 c.args.out.now.items c.put.new.out.items c.block.new.out.items (codes " else ")
    (text (block c.args.margin.now (statements c.args.kind (deeper c.args.margin.now) (bare_stmts (stmts_of c.args.ss.now)))))
    (text (otherwise c.args.kind c.args.margin.now (bare_stmts (stmts_of c.args.ss.now))))
    c.in_ok-put.ensures c.in_ok-block.ensures (braced c.args.kind c.args.margin.now c.args.ss.now (first_of (search rules, grind (arith, common_steps))) (sym c.is_chain.ensures ∙ c.if-is_chain.false))

pub otherwise-returns-then-is_chain : goal.otherwise-returns-then-is_chain
otherwise-returns-then-is_chain t c =
    chain2 c.args.out.now.items c.put.new.out.items c.statement.new.out.items (codes " else ") (text (statement c.args.kind c.args.margin.now (bare_stmt (stmt_of c.index-ss-0.result))))
    (text (otherwise c.args.kind c.args.margin.now (bare_stmts (stmts_of c.args.ss.now))))
    c.in_ok-put.ensures c.in_ok-statement.ensures
    (chained c.args.kind c.args.margin.now c.index-ss-0.result c.args.ss.now (first_of (search rules, grind (arith, common_steps))) c.index-ss-0.is (sym c.is_chain.ensures ∙ c.if-is_chain.true))

pub statement-returns-in_ok-otherwise-in-If : goal.statement-returns-in_ok-otherwise-in-If
statement-returns-in_ok-otherwise-in-If t c =
    if_text c.args.out.now.items c.head.new.out.items c.block.new.out.items c.otherwise.new.out.items c.args.margin.now c.args.kind
    (bare_stmt (stmt_of c.args.s.now)) (expr_of c.in-If.test) (bare_stmts (stmts_of c.in-If.then_arm)) (bare_stmts (stmts_of c.in-If.else_arm))
    (if_of c.args.s.now c.in-If.test c.in-If.then_arm c.in-If.else_arm c.in-If.is) (first_of (search rules, grind (arith, common_steps))) (first_of (search rules, grind (arith, common_steps))) (first_of (search rules, grind (arith, common_steps)))

pub statement-returns-in_ok-otherwise-in-TryLock : goal.statement-returns-in_ok-otherwise-in-TryLock
statement-returns-in_ok-otherwise-in-TryLock t c =
    try_lock_text c.args.out.now.items c.try_head.new.out.items c.block-in-TryLock.new.out.items c.otherwise-in-TryLock.new.out.items c.args.margin.now c.args.kind
    (bare_stmt (stmt_of c.args.s.now)) (place_of c.in-TryLock.place) (bare_stmts (stmts_of c.in-TryLock.taken)) (bare_stmts (stmts_of c.in-TryLock.busy))
    (try_lock_of c.args.s.now c.in-TryLock.place c.in-TryLock.taken c.in-TryLock.busy c.in-TryLock.is) (first_of (search rules, grind (arith, common_steps))) (first_of (search rules, grind (arith, common_steps))) (first_of (search rules, grind (arith, common_steps)))

pub statement-returns-in_ok-block-in-While : goal.statement-returns-in_ok-block-in-While
statement-returns-in_ok-block-in-While t c =
    while_text c.args.out.now.items c.head-in-While.new.out.items c.block-in-While.new.out.items c.args.margin.now c.args.kind
    (bare_stmt (stmt_of c.args.s.now)) (expr_of c.in-While.test) (bare_stmts (stmts_of c.in-While.body))
    (while_of c.args.s.now c.in-While.test c.in-While.body c.in-While.is) (first_of (search rules, grind (arith, common_steps))) (first_of (search rules, grind (arith, common_steps)))

pub statement-returns-in_ok-block-in-For : goal.statement-returns-in_ok-block-in-For
statement-returns-in_ok-block-in-For t c =
    for_text c.args.out.now.items c.for_head.new.out.items c.block-in-For.new.out.items c.args.margin.now c.args.kind
    (bare_stmt (stmt_of c.args.s.now)) (bare_stmts (stmts_of c.in-For.first)) (expr_of c.in-For.test) (bare_stmts (stmts_of c.in-For.step)) (bare_stmts (stmts_of c.in-For.body))
    (for_of c.args.s.now c.in-For.first c.in-For.test c.in-For.step c.in-For.body c.in-For.is) (first_of (search rules, grind (arith, common_steps))) (first_of (search rules, grind (arith, common_steps)))

pub lines-loop-s-preserved : goal.lines-loop-s-preserved
lines-loop-s-preserved t c =
    line_text c.args.kind c.args.margin.now c.args.ss.now c.loop-s.s-index c.s-item.result (c.args.out.now.items ++ lines_of c.args.kind c.args.margin.now c.args.ss.now)
    c.loop-s.out.items c.put.new.out.items c.statement.new.out.items c.put-in-loop-s.new.out.items c.loop-s-test.true c.s-item.is
    c.in_ok-put.ensures c.in_ok-statement.ensures c.in_ok-put-2.ensures c.loop-s.invariant

pub lines-returns : goal.lines-returns
lines-returns t c =
    ended (lines_of c.args.kind c.args.margin.now) c.args.ss.now c.loop-s.s-index (c.args.out.now.items ++ lines_of c.args.kind c.args.margin.now c.args.ss.now)
    c.loop-s.out.items c.loop-s-test.false refl c.loop-s.invariant
