use Rattle.std.proofs.Common.{Option, ℕ, Some, refl, sym, ap, ◌∙◌, subst, false}
use Rattle.c_meaning.specs.Waits.{retaken}
use Rattle.state_parts.specs.Threads.{frames_in}
use Rattle.c_steps.specs.Model.{state_of}
use Rattle.c_steps.specs.Answers.{Answers}
use Rattle.c_steps.proofs.state.State.retake.Goals as goal

pub returns-in-Some-None-clause-is : goal.returns-in-Some-None-clause-is
returns-in-Some-None-clause-is c thread there =
    let p = c.args.p.now in let s = c.args.self.now in
    let frames = frames_in p s.tables thread.frames.items in
    let Comes : Option (Option ℕ) → Type 0 = λ owner. Answers false (retaken (state_of p s) c.args.t c.args.mutex frames owner) c.end_wait.result (state_of p s) (state_of p c.end_wait.new.self) in
    subst Comes (sym (sym c.owner.ensures ∙ c.in-Some-None.is ∙ ap Some c.in-Some-None.field-0-is)) (c.end_wait.ensures.is thread there)

pub returns-in-Some-Some-clause-is : goal.returns-in-Some-Some-clause-is
returns-in-Some-Some-clause-is c thread there =
    let p = c.args.p.now in let s = c.args.self.now in
    (ap (retaken (state_of p s) c.args.t c.args.mutex (frames_in p s.tables thread.frames.items)) (sym c.owner.ensures ∙ c.in-Some-Some.is ∙ ap Some c.in-Some-Some.field-0-is), refl)

pub returns-in-None-clause-is : goal.returns-in-None-clause-is
returns-in-None-clause-is c thread there =
    let p = c.args.p.now in let s = c.args.self.now in
    (ap (retaken (state_of p s) c.args.t c.args.mutex (frames_in p s.tables thread.frames.items)) (sym c.owner.ensures ∙ c.in-None.is), refl)
