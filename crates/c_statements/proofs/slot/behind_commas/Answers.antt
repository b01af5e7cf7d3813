use Rattle.std.proofs.Common.{rules, arith, sym, ◌∙◌}
use Rattle.std.proofs.lemmas.Grind.{common_steps}
use Rattle.c_expressions.specs.Gives.{sight}
use Rattle.c_statements.proofs.Turns.{comma_next, commas_stop, comma_shorter}
use Rattle.c_statements.proofs.slot.behind_commas.Goals as goal

pub returns-in_err-more : goal.returns-in_err-more
returns-in_err-more c =
    let e = comma_next (sight c.args.setting) c.turns.all c.turns.rest.now (sym c.is_comma.ensures ∙ c.turns-test.true) in
    first_of (search rules, grind (arith, common_steps))

pub turns-smaller : goal.turns-smaller
turns-smaller c = comma_shorter (sight c.args.setting) c.in_ok-more.more c.turns.rest.now c.in_ok-more.after.now c.in_ok-more.ensures

pub turns-preserved : goal.turns-preserved
turns-preserved c =
    let e = comma_next (sight c.args.setting) c.turns.all c.turns.rest.now (sym c.is_comma.ensures ∙ c.turns-test.true) in
    first_of (search rules, grind (arith, common_steps))

pub returns : goal.returns
returns c = c.turns.invariant.gives ∙ commas_stop (sight c.args.setting) c.turns.all c.turns.rest.now (sym c.is_comma.ensures ∙ c.turns-test.false)
