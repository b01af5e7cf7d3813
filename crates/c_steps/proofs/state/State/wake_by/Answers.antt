use Rattle.std.proofs.Common.{◌∷◌, option_map, sym, ap, refl, ◌∙◌}
use Rattle.std.specs.Prelude.{slice_get}
use Rattle.std.proofs.lemmas.Option.{slice_get-map}
use Rattle.c_meaning.specs.State.{frame}
use Rattle.c_meaning.specs.Waits.{woken_by}
use Rattle.state_parts.specs.Threads.{status_of, frames_in}
use Rattle.c_steps.specs.Model.{state_of}
use Rattle.state_parts.specs.Waiting.{mutex_waiting}
use Rattle.c_steps.proofs.Wakings.{present, woken_after, not_woken}
use Rattle.c_steps.proofs.state.State.wake_by.Goals as goal

pub returns-in-Some-mutex_waiting-clause-is : goal.returns-in-Some-mutex_waiting-clause-is
returns-in-Some-mutex_waiting-clause-is c act at =
    let p = c.args.p.now in let s = c.args.self.now in
    let found = present (λ thread. thread.doing) (slice_get s.threads.items c.args.u) c.in-Some.doing (sym c.doing.ensures ∙ c.in-Some.is) in
    let waits = ap (mutex_waiting c.args.condition) found.2 ∙ sym c.mutex_waiting.ensures ∙ c.in-Some-mutex_waiting.is in
    woken_after p s c.go_on.new.self c.turn.new.self c.args.t c.args.u (frame at.locals at.rest ∷ at.more) c.args.condition c.in-Some-mutex_waiting.mutex at.thread found.0
    at.there at.runs found.1 waits (c.go_on.ensures.goes act at) (λ x e. c.turn.ensures.turns p x e)

pub returns-in-None-clause-is : goal.returns-in-None-clause-is
returns-in-None-clause-is c act at =
    let p = c.args.p.now in let s = c.args.self.now in
    let found = present (λ thread. thread.doing) (slice_get s.threads.items c.args.u) c.in-Some.doing (sym c.doing.ensures ∙ c.in-Some.is) in
    let waits = ap (mutex_waiting c.args.condition) found.2 ∙ sym c.mutex_waiting.ensures ∙ c.in-None.is in
    let frames = frame at.locals at.rest ∷ at.more in (
      ap (woken_by (state_of p s) c.args.t frames c.args.condition c.args.u) (slice_get-map (status_of p s.tables) s.threads.items c.args.u ∙ ap (option_map (status_of p s.tables)) found.1)
          ∙ not_woken (state_of p s) c.args.t c.args.u frames (frames_in p s.tables found.0.frames.items) c.args.condition found.0.doing waits,
      refl,
    )
