use Rattle.std.proofs.Common.{rules, arith, sym, ◌∙◌}
use Rattle.std.proofs.lemmas.Grind.{common_steps}
use Rattle.c_programs.specs.Gives.{views, reading_of}
use Rattle.c_programs.proofs.Turns.{outer_next, outer_stops, outer_shorter}
use Rattle.c_programs.proofs.program.outer_parts.Goals as goal

pub returns-in_err-more : goal.returns-in_err-more
returns-in_err-more c =
    let e = outer_next (views c.args.text.now) c.args.room (reading_of c.turns.reading) c.turns.rest.now (sym c.outer_comes.ensures ∙ c.turns-test.true) in
    first_of (search rules, grind (arith, common_steps))

pub turns-smaller : goal.turns-smaller
turns-smaller c = outer_shorter (views c.args.text.now) c.args.room (reading_of c.turns.reading) (reading_of c.in_ok-more.more) c.turns.rest.now c.in_ok-more.after.now c.in_ok-more.ensures

pub turns-preserved : goal.turns-preserved
turns-preserved c =
    let e = outer_next (views c.args.text.now) c.args.room (reading_of c.turns.reading) c.turns.rest.now (sym c.outer_comes.ensures ∙ c.turns-test.true) in
    let lt = outer_shorter (views c.args.text.now) c.args.room (reading_of c.turns.reading) (reading_of c.in_ok-more.more) c.turns.rest.now c.in_ok-more.after.now c.in_ok-more.ensures in
    first_of (search rules, grind (arith, common_steps))

pub returns : goal.returns
returns c = c.turns.invariant.gives ∙ outer_stops (views c.args.text.now) c.args.room (reading_of c.turns.reading) c.turns.rest.now (sym c.outer_comes.ensures ∙ c.turns-test.false)
