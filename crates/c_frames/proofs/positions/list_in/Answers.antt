use Rattle.std.proofs.Common.{refl, sym, ◌∙◌, length}
use Rattle.std.proofs.lemmas.Option.{slice_get_read, slice_get_past}
use Rattle.c_frames.proofs.Standings.{entered_there, entered_nothing}
use Rattle.c_frames.proofs.positions.list_in.Goals as goal

pub returns-in-Some : goal.returns-in-Some
returns-in-Some c =
    let found = c.in-Some.ensures.lookup in
    let there = slice_get_read c.args.list.now (length c.args.list.now) c.args.q.index c.in-Some.s.now refl found.3.0 found.1 in
    c.part_of.ensures ∙ sym (entered_there c.args.list.now c.args.q.index c.args.q.part c.in-Some.s.now there)

pub returns-in-None : goal.returns-in-None
returns-in-None c = sym (entered_nothing c.args.list.now c.args.q.index c.args.q.part (slice_get_past c.args.list.now c.args.q.index c.in-None.ensures.lookup.3))
