use Rattle.std.proofs.Common.{◌∷◌, refl, sym, ap, ◌∙◌}
use Rattle.c_tree.specs.Bare.{InitMutex}
use Rattle.c_tree.specs.Expressions.{place_of}
use Rattle.c_meaning.specs.declared.Did.TheVariants as did
use Rattle.c_meaning.specs.State.{frame}
use Rattle.c_meaning.specs.Outcome.{Done}
use Rattle.c_meaning.specs.Locks.{initialised}
use Rattle.c_steps.specs.Model.{state_of}
use Rattle.c_steps.proofs.state.State.init_mutex.Goals as goal

pub returns-in-Some-clause-is : goal.returns-in-Some-clause-is
returns-in-Some-clause-is c at =
    let act = InitMutex (place_of c.args.place.now) in
    ap (initialised (state_of c.args.p.now c.args.self.now) c.args.t (frame at.locals at.rest ∷ at.more)) (sym (c.mutex_at.ensures act at) ∙ c.in-Some.is) ∙ ap (Done did.Step) (sym (c.go_on.ensures.goes act at))

pub returns-in-None-clause-is : goal.returns-in-None-clause-is
returns-in-None-clause-is c at =
    (ap (initialised (state_of c.args.p.now c.args.self.now) c.args.t (frame at.locals at.rest ∷ at.more)) (sym (c.mutex_at.ensures (InitMutex (place_of c.args.place.now)) at) ∙ c.in-None.is), refl)
