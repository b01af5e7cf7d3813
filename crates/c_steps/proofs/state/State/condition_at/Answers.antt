use Rattle.std.proofs.Common.{sym, ap, ◌∙◌}
use Rattle.std.specs.Prelude.{slice_get}
use Rattle.c_tree.specs.Expressions.{place_of}
use Rattle.c_tree.specs.Bare.{Cons}
use Rattle.c_meaning.specs.Shown.{shown}
use Rattle.c_meaning.specs.State as run
use Rattle.c_meaning.specs.Places.{condition_at}
use Rattle.c_frames.specs.Frames.{locals_in}
use Rattle.c_steps.specs.Model.{state_of}
use Rattle.c_steps.proofs.state.State.condition_at.Goals as goal

pub returns-in_err-view : goal.returns-in_err-view
returns-in_err-view c act at = absurd (c.in_err-view.ensures at.thread (run.frame at.locals (Cons act at.rest)) at.there (ap (λ l. slice_get l 0) at.stands))

pub returns : goal.returns
returns c act at =
    let p = c.args.p.now in let s = c.args.self.now in let view = c.in_ok-view.field-0 in
    let sees = c.in_ok-view.ensures at.thread (run.frame at.locals (Cons act at.rest)) at.there (ap (λ l. slice_get l 0) at.stands) in
    c.condition.ensures (state_of p s) (sym sees.cells)
    ∙ ap (λ q. condition_at (shown q) (state_of p s) (locals_in view.names.now view.frame.now) (place_of c.args.place.now)) sees.program
    ∙ ap (λ l. condition_at (shown p) (state_of p s) l (place_of c.args.place.now)) sees.scope
