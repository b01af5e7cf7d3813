use Rattle.std.proofs.Common.{◌∷◌, Option, ℕ, sym, ◌∙◌, subst, false}
use Rattle.c_tree.specs.Bare.{Join}
use Rattle.c_tree.specs.Expressions.{place_of}
use Rattle.c_meaning.specs.State.{frame}
use Rattle.c_meaning.specs.Threads.{joined}
use Rattle.c_steps.specs.Model.{state_of}
use Rattle.c_steps.specs.Answers.{Answers}
use Rattle.c_steps.proofs.state.State.join.Goals as goal

pub returns-in-Some-clause-is : goal.returns-in-Some-clause-is
returns-in-Some-clause-is c at =
    let s = state_of c.args.p.now c.args.self.now in
    let Comes : Option ℕ → Type 0 = λ u. Answers false (joined s c.args.t (frame at.locals at.rest ∷ at.more) u) c.join_thread.result s (state_of c.args.p.now c.join_thread.new.self) in
    subst Comes (sym c.in-Some.is ∙ c.thread_in.ensures) (c.join_thread.ensures.is (Join (place_of c.args.slot.now)) at)
