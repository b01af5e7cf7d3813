use Rattle.std.proofs.Common.{sym, ap, ◌∙◌}
use Rattle.std.specs.Prelude.{slice_get}
use Rattle.c_tree.specs.Expressions.{expr_of}
use Rattle.c_tree.specs.Bare.{Cons}
use Rattle.c_meaning.specs.Shown.{shown}
use Rattle.c_meaning.specs.State as run
use Rattle.c_meaning.specs.Places.{evaluated}
use Rattle.c_frames.specs.Frames.{locals_in}
use Rattle.c_steps.specs.Model.{state_of}
use Rattle.c_steps.proofs.state.State.evaluated.Goals as goal

pub returns-in_err-view : goal.returns-in_err-view
returns-in_err-view c act at = absurd (c.in_err-view.ensures at.thread (run.frame at.locals (Cons act at.rest)) at.there (ap (λ l. slice_get l 0) at.stands))

pub returns : goal.returns
returns c act at =
    let p = c.args.p.now in let s = c.args.self.now in let view = c.in_ok-view.field-0 in
    let sees = c.in_ok-view.ensures at.thread (run.frame at.locals (Cons act at.rest)) at.there (ap (λ l. slice_get l 0) at.stands) in
    c.value.ensures (state_of p s) (sym sees.cells)
    ∙ ap (λ q. evaluated (shown q) (state_of p s) (locals_in view.names.now view.frame.now) (expr_of c.args.e.now)) sees.program
    ∙ ap (λ l. evaluated (shown p) (state_of p s) l (expr_of c.args.e.now)) sees.scope
