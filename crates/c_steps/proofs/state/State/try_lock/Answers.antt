use Rattle.std.proofs.Common.{◌∷◌, Option, ℕ, refl, sym, ap, ◌∙◌, subst, false}
use Rattle.c_tree.specs.Bare.{TryLock, before}
use Rattle.c_tree.specs.Expressions.{place_of}
use Rattle.c_meaning.specs.State.{frame}
use Rattle.c_meaning.specs.Locks.{tried}
use Rattle.c_steps.specs.Model.{state_of}
use Rattle.c_steps.specs.Answers.{Answers}
use Rattle.c_steps.proofs.state.State.try_lock.Goals as goal

pub returns-in-Some-clause-is : goal.returns-in-Some-clause-is
returns-in-Some-clause-is c taken busy at =
    let act = TryLock (place_of c.args.place.now) taken busy in
    let s = state_of c.args.p.now c.args.self.now in
    let Comes : Option ℕ → Type 0 = λ mutex. Answers false (tried s c.args.t (frame at.locals (before taken at.rest) ∷ at.more) (frame at.locals (before busy at.rest) ∷ at.more) mutex)
    c.try_mutex.result s (state_of c.args.p.now c.try_mutex.new.self) in
    subst Comes (sym c.in-Some.is ∙ c.mutex_at.ensures act at) (c.try_mutex.ensures.is (place_of c.args.place.now) taken busy at)

pub returns-in-None-clause-is : goal.returns-in-None-clause-is
returns-in-None-clause-is c taken busy at = (
  ap (tried (state_of c.args.p.now c.args.self.now) c.args.t (frame at.locals (before taken at.rest) ∷ at.more) (frame at.locals (before busy at.rest) ∷ at.more))
      (sym (c.mutex_at.ensures (TryLock (place_of c.args.place.now) taken busy) at) ∙ c.in-None.is),
  refl,
)
