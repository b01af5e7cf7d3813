use Rattle.std.proofs.Common.{rules, arith, sym, ◌∙◌}
use Rattle.std.proofs.lemmas.Grind.{common_steps}
use Rattle.c_expressions.specs.Gives.{sight}
use Rattle.c_simple.proofs.Turns.{take_next, takes_stop, take_shorter}
use Rattle.c_simple.proofs.takes.more_takes.Goals as goal

pub returns-in_err-more : goal.returns-in_err-more
returns-in_err-more c =
    let e = take_next (sight c.args.setting) c.turns.all c.turns.rest.now (sym c.number_comes.ensures ∙ c.turns-test.true) in
    first_of (search rules, grind (arith, common_steps))

pub turns-smaller : goal.turns-smaller
turns-smaller c = take_shorter (sight c.args.setting) c.turns.all c.in_ok-more.more c.turns.rest.now c.in_ok-more.after.now c.in_ok-more.ensures

pub turns-preserved : goal.turns-preserved
turns-preserved c =
    let e = take_next (sight c.args.setting) c.turns.all c.turns.rest.now (sym c.number_comes.ensures ∙ c.turns-test.true) in
    first_of (search rules, grind (arith, common_steps))

pub returns : goal.returns
returns c = c.turns.invariant.gives ∙ takes_stop (sight c.args.setting) c.turns.all c.turns.rest.now (sym c.number_comes.ensures ∙ c.turns-test.false)
