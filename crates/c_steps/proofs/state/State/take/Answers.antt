use Rattle.std.proofs.Common.{◌≡◌, ◌∷◌, ◌+◌, ◌^◌, ◌<◌, map, suc, sum, Some, option_map, sym, ap, ◌∙◌, arith}
use Rattle.std.specs.Prelude.{slice_get}
use Rattle.c_tree.specs.Bare.{Take}
use Rattle.c_meaning.specs.declared.Did.TheVariants as did
use Rattle.c_meaning.specs.State.{Running, frame}
use Rattle.c_meaning.specs.Outcome.{Done}
use Rattle.c_meaning.specs.Locks.{taken, held_by, holding}
use Rattle.c_steps.specs.Model.{state_of}
use Rattle.c_steps.proofs.Effects.{taken_where_free, held_within}
use Rattle.c_steps.proofs.state.State.take.Goals as goal

pub overflow_add-held : goal.overflow_add-held
overflow_add-held c =
    let w = held_within c.in-Some-row.row.now c.args.t in
    let few : sum c.in-Some-row.row.now + 1 < 2 ^ 32 = c.has_room.ensures.few c.if-not-has_room.false in
    omega (arith, w, few, c.held_by-held.ensures)

pub returns-clause-is : goal.returns-clause-is
returns-clause-is c at =
    let s = state_of c.args.p.now c.args.self.now in
    let status = Running (frame at.locals at.rest ∷ at.more) in
    let row = c.in-Some-row.row.now in
    let there = sym c.row.ensures ∙ ap (option_map (λ row. row.now)) c.in-Some-row.is in
    let more : c.held_by-held.result + 1 ≡ suc (held_by row c.args.t) = omega (arith, c.held_by-held.ensures) in
    ap (λ capacity. taken s c.args.t status c.args.monitor capacity (slice_get (map (λ row. row.items) c.args.self.now.tokens.items) c.args.monitor)) (sym c.capacity.ensures ∙ c.in-Some.is)
    ∙ ap (taken s c.args.t status c.args.monitor (Some c.in-Some.capacity)) there
    ∙ taken_where_free s c.args.t status c.args.monitor c.in-Some.capacity row (sym c.has_room.ensures.is ∙ c.if-not-has_room.false)
    ∙ ap (λ held. Done (did.Take c.args.monitor) (holding s c.args.t status c.args.monitor row held)) (sym more)
    ∙ ap (Done (did.Take c.args.monitor)) (sym (c.go_on_holding.ensures.goes (Take c.args.monitor) at row there))
