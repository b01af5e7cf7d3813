use Rattle.std.proofs.Common.{◌≡◌, ◌∷◌, refl, sym, ap, ◌∙◌, subst}
use Rattle.std.specs.Prelude.{reverse, slice_get}
use Rattle.std.proofs.lemmas.Option.{MatchOption-at_some}
use Rattle.c_tree.specs.Bare.{Stmts, Nil, Cons}
use Rattle.c_frames.specs.Positions.{first_of}
use Rattle.c_meaning.specs.Shown.{shown, shown_stmt}
use Rattle.c_meaning.specs.State as run
use Rattle.c_meaning.specs.Step.{went}
use Rattle.c_steps.specs.Answers.{Answers}
use Rattle.c_steps.specs.Asking.{asks_in}
use Rattle.state_parts.specs.First.{IsFirst}
use Rattle.state_parts.specs.Threads.{frame_in, frames_in}
use Rattle.c_steps.specs.Model.{state_of}
use Rattle.c_steps.specs.Running.{Runs}
use Rattle.c_steps.specs.Standing.{At}
use Rattle.state_parts.specs.declared.first.First.TheVariants as first
use Rattle.c_steps.proofs.BelowNewest.{match_none, match_some}
use Rattle.c_steps.proofs.MaySetting.{may_each, newest_of, no_frames}
use Rattle.c_steps.proofs.state.State.run.Goals as goal

pub act-requires-clause-may : goal.act-requires-clause-may
act-requires-clause-may c =
    let p = c.args.p.now in let s = c.args.self.now in
    may_each s c.args.t (shown_stmt c.in-At.s.now) (λ i.
    let stands : IsFirst p s.tables i.x (first.At c.in-At.s c.in-At.begun) =
    MatchOption-at_some _ (λ x. IsFirst p s.tables x (first.At c.in-At.s c.in-At.begun)) i.x i.newest (c.in-At.ensures.is i.thread i.there) in
    stands.sets i.names i.are)

pub returns-in-Nothing-clause-is : goal.returns-in-Nothing-clause-is
returns-in-Nothing-clause-is c thread there runs =
    let p = c.args.p.now in let s = c.args.self.now in
    let none = match_none (slice_get (reverse thread.frames.items) 0) _ (c.in-Nothing.ensures.is thread there) in
    (ap (went (shown p) (state_of p s) c.args.t) (no_frames (frame_in p s.tables) thread.frames.items none), refl)

pub returns-in-End-clause-is : goal.returns-in-End-clause-is
returns-in-End-clause-is c thread there runs =
    let p = c.args.p.now in let s = c.args.self.now in
    let some = match_some (slice_get (reverse thread.frames.items) 0) _ (λ x. IsFirst p s.tables x first.End) (λ e. cc e) (c.in-End.ensures.is thread there) in
    let g = frame_in p s.tables in
    let newest = newest_of g thread.frames.items some.0 some.1 in
    let is : frames_in p s.tables thread.frames.items ≡ run.frame (g some.0).locals Nil ∷ newest.more = newest.is ∙ ap {A = Stmts} (λ todo. run.frame (g some.0).locals todo ∷ newest.more) some.2 in
    let r : Runs p s c.args.t (run.frame (g some.0).locals Nil) newest.more = record { thread = thread; there = there; runs = runs; stands = is } in
    subst (λ fs. Answers (asks_in fs) (went (shown p) (state_of p s) c.args.t fs) c.finish.result (state_of p s) (state_of p c.finish.new.self)) (sym is)
    (c.finish.ensures.is (run.frame (g some.0).locals Nil) newest.more r)

pub returns-in-At-clause-is : goal.returns-in-At-clause-is
returns-in-At-clause-is c thread there runs =
    let p = c.args.p.now in let s = c.args.self.now in let act = first_of c.in-At.begun (shown_stmt c.in-At.s.now) in
    let some = match_some (slice_get (reverse thread.frames.items) 0) _ (λ x. IsFirst p s.tables x (first.At c.in-At.s c.in-At.begun)) (λ e. cc e) (c.in-At.ensures.is thread there) in
    let g = frame_in p s.tables in let stands = some.2 in
    let newest = newest_of g thread.frames.items some.0 some.1 in
    let is : frames_in p s.tables thread.frames.items ≡ run.frame (g some.0).locals (Cons act stands.rest) ∷ newest.more =
    newest.is ∙ ap {A = Stmts} (λ todo. run.frame (g some.0).locals todo ∷ newest.more) stands.first in
    let at : At p s c.args.t act = record { thread = thread; there = there; runs = runs; locals = (g some.0).locals; rest = stands.rest; more = newest.more; stands = is } in
    subst (λ fs. Answers (asks_in fs) (went (shown p) (state_of p s) c.args.t fs) c.act.result (state_of p s) (state_of p c.act.new.self)) (sym is) (c.act.ensures.is at)

pub returns-in-At-clause-kept : goal.returns-in-At-clause-kept
returns-in-At-clause-kept c thread there runs =
    let p = c.args.p.now in let s = c.args.self.now in let act = first_of c.in-At.begun (shown_stmt c.in-At.s.now) in
    let some = match_some (slice_get (reverse thread.frames.items) 0) _ (λ x. IsFirst p s.tables x (first.At c.in-At.s c.in-At.begun)) (λ e. cc e) (c.in-At.ensures.is thread there) in
    let g = frame_in p s.tables in let stands = some.2 in
    let newest = newest_of g thread.frames.items some.0 some.1 in
    let is : frames_in p s.tables thread.frames.items ≡ run.frame (g some.0).locals (Cons act stands.rest) ∷ newest.more =
    newest.is ∙ ap {A = Stmts} (λ todo. run.frame (g some.0).locals todo ∷ newest.more) stands.first in
    c.act.ensures.kept (record { thread = thread; there = there; runs = runs; locals = (g some.0).locals; rest = stands.rest; more = newest.more; stands = is })
