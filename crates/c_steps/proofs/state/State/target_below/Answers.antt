use Rattle.std.proofs.Common.{sym, ap, ◌∙◌}
use Rattle.std.specs.Prelude.{slice_get}
use Rattle.c_tree.specs.Expressions.{place_of}
use Rattle.c_meaning.specs.Shown.{shown}
use Rattle.c_meaning.specs.Places.{target_at}
use Rattle.c_frames.specs.Frames.{locals_in}
use Rattle.c_steps.specs.Model.{state_of}
use Rattle.c_steps.proofs.state.State.target_below.Goals as goal

pub returns-in_err-view-clause-is : goal.returns-in_err-view-clause-is
returns-in_err-view-clause-is c newest f more r = absurd (c.in_err-view.ensures r.thread f r.there (ap (λ l. slice_get l 1) r.stands))

pub returns-clause-is : goal.returns-clause-is
returns-clause-is c newest f more r =
    let p = c.args.p.now in let s = c.args.self.now in let view = c.in_ok-view.field-0 in
    let sees = c.in_ok-view.ensures r.thread f r.there (ap (λ l. slice_get l 1) r.stands) in
    c.find_target.ensures.is (state_of p s) (sym sees.cells)
    ∙ ap (λ q. target_at (shown q) (state_of p s) (locals_in view.names.now view.frame.now) (place_of c.args.place.now)) sees.program
    ∙ ap (λ l. target_at (shown p) (state_of p s) l (place_of c.args.place.now)) sees.scope
