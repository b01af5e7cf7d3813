use Rattle.std.proofs.Common.{rules, arith, sym, ◌∙◌}
use Rattle.std.proofs.lemmas.Grind.{common_steps}
use Rattle.parse_laws.specs.Sums.{tall}
use Rattle.parse_laws.specs.Promise.{max_levels}
use Rattle.parse_laws.proofs.Turns.{comma_next, commas_stop, comma_shorter}
use Rattle.parse_laws.proofs.parse.more.Goals as goal

pub returns-in_err-x : goal.returns-in_err-x
returns-in_err-x c =
    let e = comma_next max_levels (tall c.turns.tree c.turns.height) c.turns.rest.now (sym c.is_comma.ensures ∙ c.turns-test.true) in
    first_of (search rules, grind (arith, common_steps))

pub turns-smaller : goal.turns-smaller
turns-smaller c = comma_shorter max_levels c.turns.rest.now c.in_ok-x.x c.in_ok-x.after.now c.in_ok-x.ensures.gives

pub turns-preserved : goal.turns-preserved
turns-preserved c =
    let e = comma_next max_levels (tall c.turns.tree c.turns.height) c.turns.rest.now (sym c.is_comma.ensures ∙ c.turns-test.true) in
    first_of (search rules, grind (arith, common_steps))

pub returns : goal.returns
returns c =
    c.turns.invariant.gives ∙ commas_stop max_levels (tall c.turns.tree c.turns.height) c.turns.rest.now (sym c.is_comma.ensures ∙ c.turns-test.false)
