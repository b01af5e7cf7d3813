use Rattle.std.proofs.Common.{List, ℕ, sym, subst, false}
use Rattle.c_meaning.specs.Shown.{shown}
use Rattle.c_meaning.specs.Step.{acquired_again}
use Rattle.c_meaning.specs.Waits.{takes_of}
use Rattle.state_parts.specs.Threads.{frames_in}
use Rattle.c_steps.specs.Model.{state_of}
use Rattle.c_steps.specs.Answers.{Answers}
use Rattle.c_steps.proofs.Takes.{next_left, none_left}
use Rattle.c_steps.proofs.state.State.acquire_again.Goals as goal

pub returns-in-Some-clause-is : goal.returns-in-Some-clause-is
returns-in-Some-clause-is c thread there =
    let p = c.args.p.now in let s = c.args.self.now in
    let frames = frames_in p s.tables thread.frames.items in
    let Comes : List ℕ → Type 0 = λ left. Answers false (acquired_again (shown p) (state_of p s) c.args.t c.args.mutex frames left) c.take_again.result (state_of p s) (state_of p c.take_again.new.self) in
    subst Comes (sym (next_left (takes_of frames) c.args.taken c.in-Some.monitor c.next_take.result (c.next_take.ensures.is thread there) c.in-Some.is)) (c.take_again.ensures.is thread there)

pub returns-in-None-clause-is : goal.returns-in-None-clause-is
returns-in-None-clause-is c thread there =
    let p = c.args.p.now in let s = c.args.self.now in
    let frames = frames_in p s.tables thread.frames.items in
    let Comes : List ℕ → Type 0 = λ left. Answers false (acquired_again (shown p) (state_of p s) c.args.t c.args.mutex frames left) c.retake.result (state_of p s) (state_of p c.retake.new.self) in
    subst Comes (sym (none_left (takes_of frames) c.args.taken c.next_take.result (c.next_take.ensures.is thread there) c.in-None.is)) (c.retake.ensures.is thread there)
