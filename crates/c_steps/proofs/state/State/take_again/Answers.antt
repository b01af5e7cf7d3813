use Rattle.std.proofs.Common.{◌≡◌, ◌+◌, ◌^◌, ◌<◌, map, suc, sum, Some, option_map, sym, ap, ◌∙◌, arith}
use Rattle.std.specs.Prelude.{slice_get, slice_set}
use Rattle.c_meaning.specs.declared.Did.TheVariants as did
use Rattle.c_meaning.specs.State as run
use Rattle.c_meaning.specs.Outcome.{Done}
use Rattle.c_meaning.specs.Locks.{taken, held_by, holding}
use Rattle.state_parts.specs.declared.threads.Doing.TheVariants.{Reacquiring}
use Rattle.state_parts.specs.Threads.{status_with, frames_in}
use Rattle.c_steps.specs.Model.{state_of}
use Rattle.c_steps.proofs.Effects.{taken_where_free, held_within}
use Rattle.c_steps.proofs.state.State.take_again.Goals as goal

pub overflow_add-held : goal.overflow_add-held
overflow_add-held c =
    let w = held_within c.in-Some-row.row.now c.args.t in
    let few : sum c.in-Some-row.row.now + 1 < 2 ^ 32 = c.has_room.ensures.few c.if-not-has_room.false in
    omega (arith, w, few, c.held_by-held.ensures)

pub returns-clause-is : goal.returns-clause-is
returns-clause-is c thread there =
    let p = c.args.p.now in let old = c.args.self.now in
    let s = state_of p old in
    let status = status_with (Reacquiring c.args.mutex (c.args.taken + 1)) (frames_in p old.tables thread.frames.items) in
    let row = c.in-Some-row.row.now in
    let held = c.held_by-held.result + 1 in
    let has_row = sym c.row.ensures ∙ ap (option_map (λ row. row.now)) c.in-Some-row.is in
    let more : held ≡ suc (held_by row c.args.t) = omega (arith, c.held_by-held.ensures) in
    let turned = c.turn.ensures.turns p thread there in
    ap (λ capacity. taken s c.args.t status c.args.monitor capacity (slice_get (map (λ row. row.items) old.tokens.items) c.args.monitor)) (sym c.capacity.ensures ∙ c.in-Some.is)
    ∙ ap (taken s c.args.t status c.args.monitor (Some c.in-Some.capacity)) has_row
    ∙ taken_where_free s c.args.t status c.args.monitor c.in-Some.capacity row (sym c.has_room.ensures.is ∙ c.if-not-has_room.false)
    ∙ ap (λ held. Done (did.Take c.args.monitor) (holding s c.args.t status c.args.monitor row held)) (sym more)
    ∙ ap (Done (did.Take c.args.monitor)) (sym (c.set_row.ensures.is p row (ap (λ (s : run.State). slice_get s.tokens c.args.monitor) turned ∙ has_row)
    ∙ ap (λ (s : run.State). record s { tokens = slice_set s.tokens c.args.monitor (slice_set row c.args.t held) }) turned))
