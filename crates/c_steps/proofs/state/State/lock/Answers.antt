use Rattle.std.proofs.Common.{◌∷◌, Option, ℕ, refl, sym, ap, ◌∙◌, subst, false}
use Rattle.c_tree.specs.Bare.{Lock}
use Rattle.c_tree.specs.Expressions.{place_of}
use Rattle.c_meaning.specs.State.{frame}
use Rattle.c_meaning.specs.Locks.{locked}
use Rattle.c_steps.specs.Model.{state_of}
use Rattle.c_steps.specs.Answers.{Answers}
use Rattle.c_steps.proofs.state.State.lock.Goals as goal

pub returns-in-Some-clause-is : goal.returns-in-Some-clause-is
returns-in-Some-clause-is c at =
    let act = Lock (place_of c.args.place.now) in
    let s = state_of c.args.p.now c.args.self.now in
    let Comes : Option ℕ → Type 0 = λ mutex. Answers false (locked s c.args.t (frame at.locals at.rest ∷ at.more) mutex) c.lock_mutex.result s (state_of c.args.p.now c.lock_mutex.new.self) in
    subst Comes (sym c.in-Some.is ∙ c.mutex_at.ensures act at) (c.lock_mutex.ensures.is act at)

pub returns-in-None-clause-is : goal.returns-in-None-clause-is
returns-in-None-clause-is c at =
    (ap (locked (state_of c.args.p.now c.args.self.now) c.args.t (frame at.locals at.rest ∷ at.more)) (sym (c.mutex_at.ensures (Lock (place_of c.args.place.now)) at) ∙ c.in-None.is), refl)
