use Rattle.std.proofs.Common.{◌∷◌, Some, refl, sym, ap, ◌∙◌}
use Rattle.c_tree.specs.Bare as bare
use Rattle.c_tree.specs.Bare.{before}
use Rattle.c_meaning.specs.State.{frame}
use Rattle.c_meaning.specs.declared.Did.TheVariants as did
use Rattle.c_meaning.specs.Outcome.{Done}
use Rattle.c_meaning.specs.Locks.{tried_by}
use Rattle.c_steps.specs.Model.{state_of}
use Rattle.c_steps.proofs.state.State.try_mutex.Goals as goal

pub returns-in-Some-None-clause-is : goal.returns-in-Some-None-clause-is
returns-in-Some-None-clause-is c place taken busy at =
    ap (tried_by (state_of c.args.p.now c.args.self.now) c.args.t (frame at.locals (before taken at.rest) ∷ at.more) (frame at.locals (before busy at.rest) ∷ at.more) c.args.mutex)
    (sym c.owner.ensures ∙ c.in-Some-None.is ∙ ap Some c.in-Some-None.field-0-is)
    ∙ ap (Done (did.Lock c.args.mutex)) (sym (c.go_on_owning.ensures.goes (bare.TryLock place taken busy) at))

pub returns-in-Some-None-clause-kept : goal.returns-in-Some-None-clause-kept
returns-in-Some-None-clause-kept c act at = c.go_on_owning.ensures.kept act at refl

pub returns-in-Some-Some-clause-is : goal.returns-in-Some-Some-clause-is
returns-in-Some-Some-clause-is c place taken busy at =
    ap (tried_by (state_of c.args.p.now c.args.self.now) c.args.t (frame at.locals (before taken at.rest) ∷ at.more) (frame at.locals (before busy at.rest) ∷ at.more) c.args.mutex)
    (sym c.owner.ensures ∙ c.in-Some-Some.is ∙ ap Some c.in-Some-Some.field-0-is)
    ∙ ap (Done did.Step) (sym (c.go_on.ensures.goes (bare.TryLock place taken busy) at))

pub returns-in-None-clause-is : goal.returns-in-None-clause-is
returns-in-None-clause-is c place taken busy at = (
  ap (tried_by (state_of c.args.p.now c.args.self.now) c.args.t (frame at.locals (before taken at.rest) ∷ at.more) (frame at.locals (before busy at.rest) ∷ at.more) c.args.mutex)
      (sym c.owner.ensures ∙ c.in-None.is),
  refl,
)
