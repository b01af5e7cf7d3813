use Rattle.std.proofs.Common.{rules, arith, sym, ◌∙◌}
use Rattle.std.proofs.lemmas.Grind.{common_steps}
use Rattle.c_expressions.specs.Gives.{sight}
use Rattle.c_declarations.specs.Parsers.{counted}
use Rattle.c_declarations.proofs.Shorter.{less_initial}
use Rattle.c_declarations.proofs.Turns.{comma_next, commas_stop, comma_shorter}
use Rattle.c_declarations.proofs.object.more_initials.Goals as goal

pub returns-in_err-after : goal.returns-in_err-after
returns-in_err-after c =
    let e = comma_next (sight c.args.setting) (less_initial (sight c.args.setting) c.args.sort) counted c.turns.all c.turns.rest.now (sym c.is_comma.ensures ∙ c.turns-test.true) in
    first_of (search rules, grind (arith, common_steps))

pub turns-smaller : goal.turns-smaller
turns-smaller c = comma_shorter (sight c.args.setting) (less_initial (sight c.args.setting) c.args.sort) counted c.turns.rest.now _ c.in_ok-after.after.now c.in_ok-after.ensures

pub turns-preserved : goal.turns-preserved
turns-preserved c =
    let s = comma_shorter (sight c.args.setting) (less_initial (sight c.args.setting) c.args.sort) counted c.turns.rest.now _ c.in_ok-after.after.now c.in_ok-after.ensures in
    let e = comma_next (sight c.args.setting) (less_initial (sight c.args.setting) c.args.sort) counted c.turns.all c.turns.rest.now (sym c.is_comma.ensures ∙ c.turns-test.true) in
    first_of (search rules, grind (arith, common_steps))

pub returns : goal.returns
returns c = c.turns.invariant.gives ∙ commas_stop (sight c.args.setting) (less_initial (sight c.args.setting) c.args.sort) counted c.turns.all c.turns.rest.now (sym c.is_comma.ensures ∙ c.turns-test.false)
