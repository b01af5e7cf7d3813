use Rattle.std.proofs.Common.{◌∷◌, Option, ℕ, refl, sym, ap, ◌∙◌, subst, false}
use Rattle.c_tree.specs.Bare.{Signal}
use Rattle.c_tree.specs.Expressions.{place_of}
use Rattle.c_meaning.specs.State.{frame}
use Rattle.c_meaning.specs.Waits.{signalled_to}
use Rattle.c_steps.specs.Model.{state_of}
use Rattle.c_steps.specs.Answers.{Answers}
use Rattle.c_steps.proofs.state.State.choose.Goals as goal

pub returns-in-Some-clause-is : goal.returns-in-Some-clause-is
returns-in-Some-clause-is c at =
    let act = Signal (place_of c.args.cond.now) in
    let s = state_of c.args.p.now c.args.self.now in
    let Comes : Option ℕ → Type 0 = λ condition. Answers false (signalled_to s c.args.t (frame at.locals at.rest ∷ at.more) c.args.u condition) c.wake_by.result s (state_of c.args.p.now c.wake_by.new.self) in
    subst Comes (sym c.in-Some.is ∙ c.condition_at.ensures act at) (c.wake_by.ensures.is act at)

pub returns-in-None-clause-is : goal.returns-in-None-clause-is
returns-in-None-clause-is c at =
    (ap (signalled_to (state_of c.args.p.now c.args.self.now) c.args.t (frame at.locals at.rest ∷ at.more) c.args.u) (sym (c.condition_at.ensures (Signal (place_of c.args.cond.now)) at) ∙ c.in-None.is), refl)
