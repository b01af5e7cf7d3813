use Rattle.std.proofs.Common.{rules, arith, sym, ◌∙◌}
use Rattle.std.proofs.lemmas.Grind.{common_steps}
use Rattle.c_expressions.specs.Gives.{sight}
use Rattle.c_declarations.specs.Words.{int_holds}
use Rattle.c_declarations.specs.Parsers.{grown}
use Rattle.c_declarations.proofs.Shorter.{less_value}
use Rattle.c_declarations.proofs.Turns.{comma_next, commas_stop, comma_shorter}
use Rattle.c_declarations.proofs.value.more_values.Goals as goal

pub returns-in_err-one : goal.returns-in_err-one
returns-in_err-one c =
    let e = comma_next (sight c.args.setting) (less_value (sight c.args.setting) int_holds) grown c.turns.all c.turns.rest.now (sym c.is_comma.ensures ∙ c.turns-test.true) in
    first_of (search rules, grind (arith, common_steps))

pub turns-smaller : goal.turns-smaller
turns-smaller c = comma_shorter (sight c.args.setting) (less_value (sight c.args.setting) int_holds) grown c.turns.rest.now c.in_ok-one.one c.in_ok-one.after.now c.in_ok-one.ensures

pub turns-preserved : goal.turns-preserved
turns-preserved c =
    let e = comma_next (sight c.args.setting) (less_value (sight c.args.setting) int_holds) grown c.turns.all c.turns.rest.now (sym c.is_comma.ensures ∙ c.turns-test.true) in
    first_of (search rules, grind (arith, common_steps))

pub returns : goal.returns
returns c = c.turns.invariant.gives ∙ commas_stop (sight c.args.setting) (less_value (sight c.args.setting) int_holds) grown c.turns.all c.turns.rest.now (sym c.is_comma.ensures ∙ c.turns-test.false)
