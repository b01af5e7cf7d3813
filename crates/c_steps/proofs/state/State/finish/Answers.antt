use Rattle.std.proofs.Common.{◌∷◌, refl, sym, ap, ◌∙◌, subst, false}
use Rattle.std.specs.Prelude.{reverse, slice_get}
use Rattle.c_tree.specs.Bare.{Stmts}
use Rattle.std.proofs.lemmas.Option.{MatchOption-at_some}
use Rattle.c_frames.specs.Names.{target}
use Rattle.c_meaning.specs.Shown.{shown, shown_stmt}
use Rattle.c_meaning.specs.State as run
use Rattle.c_meaning.specs.Calls.{frame_ended, call_ended}
use Rattle.c_steps.specs.Answers.{Answers}
use Rattle.state_parts.specs.First.{IsFirst}
use Rattle.state_parts.specs.Threads.{frame_in}
use Rattle.c_steps.specs.Model.{state_of}
use Rattle.c_steps.specs.Running.{Runs}
use Rattle.state_parts.specs.declared.first.First.TheVariants as first
use Rattle.c_steps.proofs.BelowNewest.{nothing_below, one_below, match_none, match_some, may_below}
use Rattle.c_steps.proofs.state.State.finish.Goals as goal

pub returns-in-Nothing-clause-is : goal.returns-in-Nothing-clause-is
returns-in-Nothing-clause-is c newest more r =
    let p = c.args.p.now in let s = c.args.self.now in
    let none = match_none (slice_get (reverse r.thread.frames.items) 1) _ (c.in-Nothing.ensures.is r.thread r.there) in
    let alone = nothing_below (frame_in p s.tables) r.thread.frames.items newest more r.stands none in
    ap (λ m. frame_ended (shown p) (state_of p s) c.args.t m c.args.gives) alone ∙ c.end_thread.ensures.ends p newest (subst (Runs p s c.args.t newest) alone r)

pub returns-in-End-clause-is : goal.returns-in-End-clause-is
returns-in-End-clause-is c newest more r =
    let p = c.args.p.now in let s = c.args.self.now in
    let some = match_some (slice_get (reverse r.thread.frames.items) 1) _ (λ x. IsFirst p s.tables x first.End) (λ e. cc e) (c.in-End.ensures.is r.thread r.there) in
    let below = one_below (frame_in p s.tables) r.thread.frames.items newest more some.0 r.stands some.1 in (
      ap (λ m. frame_ended (shown p) (state_of p s) c.args.t m c.args.gives) below.is
          ∙ ap (λ todo. call_ended (shown p) (state_of p s) c.args.t (frame_in p s.tables some.0).locals below.others c.args.gives todo) some.2,
      refl,
    )

pub returns-in-At-clause-is : goal.returns-in-At-clause-is
returns-in-At-clause-is c newest more r =
    let p = c.args.p.now in let s = c.args.self.now in
    let some = match_some (slice_get (reverse r.thread.frames.items) 1) _ (λ x. IsFirst p s.tables x (first.At c.in-At.s c.in-At.field-1)) (λ e. cc e) (c.in-At.ensures.is r.thread r.there) in
    let x = some.0 in let stands = some.2 in
    let below = one_below (frame_in p s.tables) r.thread.frames.items newest more x r.stands some.1 in
    let is = below.is ∙ ap {A = Stmts} (λ todo. run.frame (frame_in p s.tables x).locals todo ∷ below.others) stands.first in
    subst (λ m. Answers false (frame_ended (shown p) (state_of p s) c.args.t m c.args.gives) c.end_call.result (state_of p s) (state_of p c.end_call.new.self)) (sym is)
    (c.end_call.ensures.is newest (frame_in p s.tables x).locals c.in-At.field-1 stands.rest below.others (subst (Runs p s c.args.t newest) is r))

pub end_call-requires-clause-may : goal.end_call-requires-clause-may
end_call-requires-clause-may c =
    let p = c.args.p.now in let s = c.args.self.now in
    may_below s c.args.t (target (shown_stmt c.in-At.s.now))
    (λ thread x there below names en.
    let stands : IsFirst p s.tables x (first.At c.in-At.s c.in-At.field-1) = MatchOption-at_some _ (λ x. IsFirst p s.tables x (first.At c.in-At.s c.in-At.field-1)) x below (c.in-At.ensures.is thread there) in
    (stands.sets names en).0)
