use Rattle.std.proofs.Common.{◌≡◌, sym, ap, ◌∙◌}
use Rattle.c_meaning.specs.Shown.{shown_body, shown_stmt}
use Rattle.c_frames.specs.Positions.{inside, from}
use Rattle.c_frames.proofs.Standings.{there_of, from_there, from_past}
use Rattle.c_frames.proofs.Leaving.{stands, next_nothing}
use Rattle.c_frames.proofs.positions.Standing.next.Goals as goal

pub returns-in-Some-clause-some : goal.returns-in-Some-clause-some
returns-in-Some-clause-some c =
    let found = c.in-Some.ensures.lookup in
    let here : inside (shown_body c.args.body.now) c.args.self.now.entered.items ≡ shown_body c.inside.result.now = ap (inside (shown_body c.args.body.now)) (sym c.as_slice.ensures) ∙ sym c.inside.ensures in
    stands (shown_body c.args.body.now) c.args.self.now (shown_body c.inside.result.now) (shown_stmt c.in-Some.s.now) here
    (from_there c.inside.result.now c.args.self.now.index c.in-Some.s.now (there_of c.inside.result.now c.args.self.now.index c.in-Some.s.now found.3.0 found.1))

pub returns-in-None-clause-none : goal.returns-in-None-clause-none
returns-in-None-clause-none c is =
    let here : inside (shown_body c.args.body.now) c.args.self.now.entered.items ≡ shown_body c.inside.result.now = ap (inside (shown_body c.args.body.now)) (sym c.as_slice.ensures) ∙ sym c.inside.ensures in
    let nothing = ap (from c.args.self.now.index) here ∙ from_past c.inside.result.now c.args.self.now.index c.in-None.ensures.lookup.3 in
    next_nothing (shown_body c.args.body.now) c.args.self.now.entered.items c.args.self.now.index c.args.self.now.begun nothing (c.requires.here nothing)
