use Rattle.std.proofs.Common.{◌∷◌, Option, ℕ, Some, refl, sym, ap, ◌∙◌, subst, false}
use Rattle.c_tree.specs.Bare.{Cons, Wait}
use Rattle.c_tree.specs.Expressions.{place_of}
use Rattle.c_meaning.specs.Shown.{shown}
use Rattle.c_meaning.specs.State.{frame}
use Rattle.c_meaning.specs.Places.{mutex_at}
use Rattle.c_meaning.specs.Waits.{waited}
use Rattle.c_steps.specs.Model.{state_of}
use Rattle.c_steps.specs.Answers.{Answers}
use Rattle.c_steps.proofs.state.State.wait.Goals as goal

pub returns-in_default-clause-is : goal.returns-in_default-clause-is
returns-in_default-clause-is c takes at =
    let act = Wait (place_of c.args.cond.now) (place_of c.args.mutex.now) takes in
    let s = state_of c.args.p.now c.args.self.now in
    (ap (λ condition. waited s c.args.t (frame at.locals (Cons act at.rest) ∷ at.more) condition (mutex_at (shown c.args.p.now) s at.locals (place_of c.args.mutex.now))) (sym (c.condition_at.ensures act at) ∙ c.in_default.is), refl)

pub returns-in-Some-mutex_at-clause-is : goal.returns-in-Some-mutex_at-clause-is
returns-in-Some-mutex_at-clause-is c takes at =
    let act = Wait (place_of c.args.cond.now) (place_of c.args.mutex.now) takes in
    let s = state_of c.args.p.now c.args.self.now in
    let Comes : Option ℕ → Option ℕ → Type 0 = λ condition mutex. Answers false (waited s c.args.t (frame at.locals (Cons act at.rest) ∷ at.more) condition mutex) c.wait_on.result s (state_of c.args.p.now c.wait_on.new.self) in
    subst (λ condition. Comes condition (mutex_at (shown c.args.p.now) s at.locals (place_of c.args.mutex.now))) (sym c.in-Some.is ∙ c.condition_at.ensures act at)
    (subst (Comes (Some c.in-Some.condition)) (sym c.in-Some-mutex_at.is ∙ c.mutex_at.ensures act at) (c.wait_on.ensures.is act at))

pub returns-in-None-clause-is : goal.returns-in-None-clause-is
returns-in-None-clause-is c takes at =
    let act = Wait (place_of c.args.cond.now) (place_of c.args.mutex.now) takes in
    let s = state_of c.args.p.now c.args.self.now in
    let frames = frame at.locals (Cons act at.rest) ∷ at.more in (
      ap (λ condition. waited s c.args.t frames condition (mutex_at (shown c.args.p.now) s at.locals (place_of c.args.mutex.now))) (sym (c.condition_at.ensures act at) ∙ c.in-Some.is)
          ∙ ap (waited s c.args.t frames (Some c.in-Some.condition)) (sym (c.mutex_at.ensures act at) ∙ c.in-None.is),
      refl,
    )
