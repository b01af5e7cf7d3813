use Rattle.std.proofs.Common.{◌∷◌, sym, ap, ◌∙◌}
use Rattle.c_meaning.specs.declared.Did.TheVariants as did
use Rattle.c_meaning.specs.State.{frame}
use Rattle.c_meaning.specs.Outcome.{Done}
use Rattle.c_steps.specs.Model.{state_of}
use Rattle.c_steps.proofs.Effects.{unlocked_as_owner}
use Rattle.c_steps.proofs.state.State.unlock_mutex.Goals as goal

pub returns-clause-is : goal.returns-clause-is
returns-clause-is c act at =
    unlocked_as_owner (state_of c.args.p.now c.args.self.now) c.args.t (frame at.locals at.rest ∷ at.more) c.args.mutex _ (sym c.if-not-is_owner.ensures)
    ∙ ap (Done (did.Unlock c.args.mutex)) (sym (c.go_on_owning.ensures.goes act at))

pub returns-clause-kept : goal.returns-clause-kept
returns-clause-kept c act at = c.go_on_owning.ensures.kept act at tt
