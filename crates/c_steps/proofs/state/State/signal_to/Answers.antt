use Rattle.std.proofs.Common.{◌≡◌, ◌∷◌, refl, sym, ap, ◌∙◌, subst, false}
use Rattle.std.specs.Prelude.{reverse, slice_get}
use Rattle.c_tree.specs.Bare.{Stmts, Nil, Cons}
use Rattle.c_frames.specs.Positions.{first_of}
use Rattle.c_meaning.specs.Shown.{shown, shown_stmt}
use Rattle.c_meaning.specs.State as run
use Rattle.c_meaning.specs.Step.{chose}
use Rattle.c_steps.specs.Answers.{Answers}
use Rattle.state_parts.specs.First.{IsFirst}
use Rattle.state_parts.specs.Threads.{frame_in, frames_in}
use Rattle.c_steps.specs.Model.{state_of}
use Rattle.c_steps.specs.Standing.{At}
use Rattle.state_parts.specs.declared.first.First.TheVariants as first
use Rattle.c_steps.proofs.BelowNewest.{match_some}
use Rattle.c_steps.proofs.MaySetting.{newest_of}
use Rattle.c_steps.proofs.state.State.signal_to.Goals as goal

pub returns-in-End-clause-is : goal.returns-in-End-clause-is
returns-in-End-clause-is c thread there runs =
    let p = c.args.p.now in let s = c.args.self.now in
    let some = match_some (slice_get (reverse thread.frames.items) 0) _ (λ x. IsFirst p s.tables x first.End) (λ e. cc e) (c.in-End.ensures.is thread there) in
    let g = frame_in p s.tables in
    let newest = newest_of g thread.frames.items some.0 some.1 in
    let is : frames_in p s.tables thread.frames.items ≡ run.frame (g some.0).locals Nil ∷ newest.more = newest.is ∙ ap {A = Stmts} (λ todo. run.frame (g some.0).locals todo ∷ newest.more) some.2 in
    (ap (chose (shown p) (state_of p s) c.args.t c.args.u) is, refl)

pub returns-in-At-clause-is : goal.returns-in-At-clause-is
returns-in-At-clause-is c thread there runs =
    let p = c.args.p.now in let s = c.args.self.now in let begun = c.in-At.field-1 in let act = first_of begun (shown_stmt c.in-At.s.now) in
    let some = match_some (slice_get (reverse thread.frames.items) 0) _ (λ x. IsFirst p s.tables x (first.At c.in-At.s begun)) (λ e. cc e) (c.in-At.ensures.is thread there) in
    let g = frame_in p s.tables in let stands = some.2 in
    let newest = newest_of g thread.frames.items some.0 some.1 in
    let is : frames_in p s.tables thread.frames.items ≡ run.frame (g some.0).locals (Cons act stands.rest) ∷ newest.more =
    newest.is ∙ ap {A = Stmts} (λ todo. run.frame (g some.0).locals todo ∷ newest.more) stands.first in
    let at : At p s c.args.t act = record { thread = thread; there = there; runs = runs; locals = (g some.0).locals; rest = stands.rest; more = newest.more; stands = is } in
    subst (λ fs. Answers false (chose (shown p) (state_of p s) c.args.t c.args.u fs) c.choose_at.result (state_of p s) (state_of p c.choose_at.new.self)) (sym is) (c.choose_at.ensures.is begun at)
