use Rattle.std.proofs.Common.{rules, arith, sym, ◌∙◌}
use Rattle.std.proofs.lemmas.Grind.{common_steps}
use Rattle.parse_laws.specs.SumParser.{sums}
use Rattle.parse_laws.proofs.Operators.{chain_base, chain_step}
use Rattle.parse_laws.proofs.Turns.{turn_next, turns_stop, turn_shorter}
use Rattle.parse_laws.proofs.sum.+sums.Goals as goal

pub chain-returns-then-level-eq0-clause-gives : goal.chain-returns-then-level-eq0-clause-gives
chain-returns-then-level-eq0-clause-gives t c =
    let e = chain_base sums c.args.room c.args.tokens.now in
    first_of (search rules, grind (arith, common_steps))

pub chain-returns-in_err-left-clause-gives : goal.chain-returns-in_err-left-clause-gives
chain-returns-in_err-left-clause-gives t c =
    let e = chain_step sums c.args.room c.args.level c.args.tokens.now (omega arith) in
    first_of (search rules, grind (arith, common_steps))

pub chain-returns-clause-gives : goal.chain-returns-clause-gives
chain-returns-clause-gives t c =
    let e = chain_step sums c.args.room c.args.level c.args.tokens.now (omega arith) in
    first_of (search rules, grind (arith, common_steps))

pub operators-returns-in_err-more-clause-gives : goal.operators-returns-in_err-more-clause-gives
operators-returns-in_err-more-clause-gives t c =
    let e = turn_next c.args.room c.args.level c.turns.left c.turns.rest.now (sym c.is_operator.ensures ∙ c.turns-test.true) in
    first_of (search rules, grind (arith, common_steps))

pub operators-turns-smaller : goal.operators-turns-smaller
operators-turns-smaller t c = turn_shorter c.args.room c.args.level c.turns.left c.in_ok-more.more c.turns.rest.now c.in_ok-more.after.now c.in_ok-more.ensures.gives

pub operators-turns-preserved : goal.operators-turns-preserved
operators-turns-preserved t c =
    let e = turn_next c.args.room c.args.level c.turns.left c.turns.rest.now (sym c.is_operator.ensures ∙ c.turns-test.true) in
    first_of (search rules, grind (arith, common_steps))

pub operators-returns-clause-gives : goal.operators-returns-clause-gives
operators-returns-clause-gives t c =
    c.turns.invariant.gives ∙ turns_stop c.args.room c.args.level c.turns.left c.turns.rest.now (sym c.is_operator.ensures ∙ c.turns-test.false)
