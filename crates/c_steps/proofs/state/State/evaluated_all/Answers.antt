use Rattle.std.proofs.Common.{sym, ap, ◌∙◌}
use Rattle.std.specs.Prelude.{slice_get}
use Rattle.std.proofs.lemmas.Result.{IfOk-weaker}
use Rattle.c_tree.specs.Expressions.{exprs_of}
use Rattle.c_tree.specs.Bare.{Cons}
use Rattle.c_meaning.specs.Shown.{shown}
use Rattle.c_meaning.specs.State as run
use Rattle.c_meaning.specs.Places.{evaluated_all}
use Rattle.c_frames.specs.Frames.{locals_in}
use Rattle.c_steps.specs.Model.{state_of}
use Rattle.c_steps.proofs.Rows.{nothing_before}
use Rattle.c_steps.proofs.state.State.evaluated_all.Goals as goal

pub returns-in_default : goal.returns-in_default
returns-in_default c act at = absurd (c.in_default.ensures at.thread (run.frame at.locals (Cons act at.rest)) at.there (ap (λ l. slice_get l 0) at.stands))

pub returns : goal.returns
returns c = IfOk-weaker c.more_values.result _ _ (λ values h act at.
    let p = c.args.p.now in let s = c.args.self.now in let view = c.in-Some.view in
    let sees = c.in-Some.ensures at.thread (run.frame at.locals (Cons act at.rest)) at.there (ap (λ l. slice_get l 0) at.stands) in
    h (state_of p s) (sym sees.cells)
    ∙ nothing_before c.new.result.items c.new.ensures.items _
    ∙ ap (λ es. evaluated_all (shown view.program.now) (state_of p s) (locals_in view.names.now view.frame.now) (exprs_of es)) c.as_slice.ensures
    ∙ ap (λ q. evaluated_all (shown q) (state_of p s) (locals_in view.names.now view.frame.now) (exprs_of c.args.es.now)) sees.program
    ∙ ap (λ l. evaluated_all (shown p) (state_of p s) l (exprs_of c.args.es.now)) sees.scope)
    c.more_values.ensures
