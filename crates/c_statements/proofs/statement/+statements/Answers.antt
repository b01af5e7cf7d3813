use Rattle.std.proofs.Common.{rules, arith, sym, ◌∙◌}
use Rattle.std.proofs.lemmas.Grind.{common_steps}
use Rattle.c_expressions.specs.Gives.{sight, tall_of}
use Rattle.c_simple.specs.Gives.{statements_of}
use Rattle.c_statements.proofs.Openings.{empty_is, if_is, while_is, for_is, simple_is, if_deep, while_deep, for_deep}
use Rattle.c_statements.proofs.Turns.{statement_next, statements_stop, statement_shorter}
use Rattle.c_statements.proofs.statement.+statements.Goals as goal

pub more_statements-returns-in_err-more-clause-gives : goal.more_statements-returns-in_err-more-clause-gives
more_statements-returns-in_err-more-clause-gives t c =
    let e = statement_next (sight c.args.setting) c.args.kind c.args.room (tall_of statements_of c.turns.all) c.turns.rest.now (sym c.is_statement.ensures ∙ c.turns-test.true) in
    first_of (search rules, grind (arith, common_steps))

pub more_statements-turns-smaller : goal.more_statements-turns-smaller
more_statements-turns-smaller t c =
    statement_shorter (sight c.args.setting) c.args.kind c.args.room (tall_of statements_of c.in_ok-more.more) c.turns.rest.now c.in_ok-more.after.now c.in_ok-more.ensures.gives

pub more_statements-turns-preserved : goal.more_statements-turns-preserved
more_statements-turns-preserved t c =
    let e = statement_next (sight c.args.setting) c.args.kind c.args.room (tall_of statements_of c.turns.all) c.turns.rest.now (sym c.is_statement.ensures ∙ c.turns-test.true) in
    first_of (search rules, grind (arith, common_steps))

pub more_statements-returns-clause-gives : goal.more_statements-returns-clause-gives
more_statements-returns-clause-gives t c =
    c.turns.invariant.gives ∙ statements_stop (sight c.args.setting) c.args.kind c.args.room (tall_of statements_of c.turns.all) c.turns.rest.now (sym c.is_statement.ensures ∙ c.turns-test.false)

pub statement-returns-in-Empty-clause-gives : goal.statement-returns-in-Empty-clause-gives
statement-returns-in-Empty-clause-gives t c =
    let e = empty_is (sight c.args.setting) c.args.kind c.args.room c.in-Some.token (sym (c.statement_opening.ensures c.args.setting.text.now) ∙ c.in-Empty.is) in
    first_of (search rules, grind (arith, common_steps))

pub statement-returns-else-room-le1-clause-gives : goal.statement-returns-else-room-le1-clause-gives
statement-returns-else-room-le1-clause-gives t c =
    let e = if_is (sight c.args.setting) c.args.kind c.args.room c.in-Some.token (sym (c.statement_opening.ensures c.args.setting.text.now) ∙ c.in-If.is) (omega (arith, c.if-room-le1.false)) in
    first_of (search rules, grind (arith, common_steps))

pub statement-returns-else-room-le1-2-clause-gives : goal.statement-returns-else-room-le1-2-clause-gives
statement-returns-else-room-le1-2-clause-gives t c =
    let e = while_is (sight c.args.setting) c.args.kind c.args.room c.in-Some.token (sym (c.statement_opening.ensures c.args.setting.text.now) ∙ c.in-While.is) (omega (arith, c.if-room-le1-2.false)) in
    first_of (search rules, grind (arith, common_steps))

pub statement-returns-else-room-eq0-clause-gives : goal.statement-returns-else-room-eq0-clause-gives
statement-returns-else-room-eq0-clause-gives t c =
    let e = for_is (sight c.args.setting) c.args.kind c.args.room c.in-Some.token (sym (c.statement_opening.ensures c.args.setting.text.now) ∙ c.in-For.is) (omega (arith, c.if-room-eq0.false)) in
    first_of (search rules, grind (arith, common_steps))

pub statement-returns-in-Simple-clause-gives : goal.statement-returns-in-Simple-clause-gives
statement-returns-in-Simple-clause-gives t c =
    let e = simple_is (sight c.args.setting) c.args.kind c.args.room c.in-Some.token (sym (c.statement_opening.ensures c.args.setting.text.now) ∙ c.in-Simple.is) in
    first_of (search rules, grind (arith, common_steps))

pub statement-returns-then-room-le1-clause-gives : goal.statement-returns-then-room-le1-clause-gives
statement-returns-then-room-le1-clause-gives t c =
    let e = if_deep (sight c.args.setting) c.args.kind c.args.room c.in-Some.token (sym (c.statement_opening.ensures c.args.setting.text.now) ∙ c.in-If.is) c.if-room-le1.true in
    first_of (search rules, grind (arith, common_steps))

pub statement-returns-then-room-le1-2-clause-gives : goal.statement-returns-then-room-le1-2-clause-gives
statement-returns-then-room-le1-2-clause-gives t c =
    let e = while_deep (sight c.args.setting) c.args.kind c.args.room c.in-Some.token (sym (c.statement_opening.ensures c.args.setting.text.now) ∙ c.in-While.is) c.if-room-le1-2.true in
    first_of (search rules, grind (arith, common_steps))

pub statement-returns-then-room-eq0-clause-gives : goal.statement-returns-then-room-eq0-clause-gives
statement-returns-then-room-eq0-clause-gives t c =
    let e = for_deep (sight c.args.setting) c.args.kind c.args.room c.in-Some.token (sym (c.statement_opening.ensures c.args.setting.text.now) ∙ c.in-For.is) (omega (arith, c.if-room-eq0.true)) in
    first_of (search rules, grind (arith, common_steps))
