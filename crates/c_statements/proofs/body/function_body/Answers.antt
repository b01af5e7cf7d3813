use Rattle.std.proofs.Common.{rules, arith, sym, ◌∙◌}
use Rattle.std.proofs.lemmas.Grind.{common_steps}
use Rattle.c_expressions.specs.Gives.{sight, tall_of}
use Rattle.c_statements.specs.Gives.{body_of}
use Rattle.c_statements.proofs.Turns.{body_next, body_stops, body_shorter}
use Rattle.c_statements.proofs.body.function_body.Goals as goal

pub returns-in_err-more-clause-gives : goal.returns-in_err-more-clause-gives
returns-in_err-more-clause-gives c =
    let e = body_next (sight c.args.setting) c.args.kind c.args.room (tall_of body_of c.turns.body) c.turns.rest.now (sym c.goes_on.ensures ∙ c.turns-test.true) in
    first_of (search rules, grind (arith, common_steps))

pub turns-smaller : goal.turns-smaller
turns-smaller c = body_shorter (sight c.args.setting) c.args.kind c.args.room (tall_of body_of c.turns.body) (tall_of body_of c.in_ok-more.more) c.turns.rest.now c.in_ok-more.after.now c.in_ok-more.ensures.gives

pub turns-preserved : goal.turns-preserved
turns-preserved c =
    let e = body_next (sight c.args.setting) c.args.kind c.args.room (tall_of body_of c.turns.body) c.turns.rest.now (sym c.goes_on.ensures ∙ c.turns-test.true) in
    first_of (search rules, grind (arith, common_steps))

pub returns-clause-gives : goal.returns-clause-gives
returns-clause-gives c =
    c.turns.invariant.gives ∙ body_stops (sight c.args.setting) c.args.kind c.args.room (tall_of body_of c.turns.body) c.turns.rest.now (sym c.goes_on.ensures ∙ c.turns-test.false)
