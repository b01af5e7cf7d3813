use Rattle.std.proofs.Common.{rules, arith, sym, ◌∙◌}
use Rattle.std.proofs.lemmas.Grind.{common_steps}
use Rattle.c_tree.specs.Expressions.{expr_of}
use Rattle.c_expressions.specs.Gives.{sight, tall_of}
use Rattle.c_expressions.specs.Parsers.{expressions_of}
use Rattle.parse_laws.proofs.Operators.{chain_base, chain_step}
use Rattle.c_expressions.proofs.Turns.{lower_is, turn_next, turns_stop, turn_shorter}
use Rattle.c_expressions.proofs.expression.+expressions.Goals as goal

pub chain-returns-then-level-eq0-clause-gives : goal.chain-returns-then-level-eq0-clause-gives
chain-returns-then-level-eq0-clause-gives t c =
    let e = chain_base (expressions_of (sight c.args.setting)) c.args.room c.args.tokens.now in
    first_of (search rules, grind (arith, common_steps))

pub chain-returns-in_err-left-clause-gives : goal.chain-returns-in_err-left-clause-gives
chain-returns-in_err-left-clause-gives t c =
    let e = chain_step (expressions_of (sight c.args.setting)) c.args.room c.args.level c.args.tokens.now (omega arith) in
    first_of (search rules, grind (arith, common_steps))

pub chain-returns-clause-gives : goal.chain-returns-clause-gives
chain-returns-clause-gives t c =
    let e = chain_step (expressions_of (sight c.args.setting)) c.args.room c.args.level c.args.tokens.now (omega arith) in
    first_of (search rules, grind (arith, common_steps))

pub operators-returns-in_err-more-clause-gives : goal.operators-returns-in_err-more-clause-gives
operators-returns-in_err-more-clause-gives t c =
    let e = turn_next (sight c.args.setting) c.args.room c.args.level (tall_of expr_of c.turns.left) c.turns.rest.now (sym c.is_operator.ensures ∙ c.turns-test.true) in
    first_of (search rules, grind (arith, common_steps))

pub operators-turns-smaller : goal.operators-turns-smaller
operators-turns-smaller t c =
    turn_shorter (sight c.args.setting) c.args.room c.args.level (tall_of expr_of c.turns.left) (tall_of expr_of c.in_ok-more.more) c.turns.rest.now c.in_ok-more.after.now c.in_ok-more.ensures.gives

pub operators-turns-preserved : goal.operators-turns-preserved
operators-turns-preserved t c =
    let e = turn_next (sight c.args.setting) c.args.room c.args.level (tall_of expr_of c.turns.left) c.turns.rest.now (sym c.is_operator.ensures ∙ c.turns-test.true) in
    first_of (search rules, grind (arith, common_steps))

pub operators-returns-clause-gives : goal.operators-returns-clause-gives
operators-returns-clause-gives t c =
    c.turns.invariant.gives ∙ turns_stop (sight c.args.setting) c.args.room c.args.level (tall_of expr_of c.turns.left) c.turns.rest.now (sym c.is_operator.ensures ∙ c.turns-test.false)

pub index-returns-in_err-rest-clause-gives : goal.index-returns-in_err-rest-clause-gives
index-returns-in_err-rest-clause-gives t c =
    let e = lower_is (sight c.args.setting) c.args.room 6 c.args.tokens.now (omega arith) in
    first_of (search rules, grind (arith, common_steps))
