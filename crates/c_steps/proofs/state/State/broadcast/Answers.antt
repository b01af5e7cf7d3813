use Rattle.std.proofs.Common.{◌∷◌, refl, sym, ap, ◌∙◌}
use Rattle.c_tree.specs.Bare.{Broadcast}
use Rattle.c_tree.specs.Expressions.{place_of}
use Rattle.c_meaning.specs.declared.Did.TheVariants as did
use Rattle.c_meaning.specs.State.{frame}
use Rattle.c_meaning.specs.Outcome.{Done}
use Rattle.c_meaning.specs.Waits.{broadcast, all_awakened}
use Rattle.c_steps.specs.Model.{state_of}
use Rattle.c_steps.proofs.state.State.broadcast.Goals as goal

pub returns-in_default-clause-is : goal.returns-in_default-clause-is
returns-in_default-clause-is c at =
    (ap (broadcast (state_of c.args.p.now c.args.self.now) c.args.t (frame at.locals at.rest ∷ at.more)) (sym (c.condition_at.ensures (Broadcast (place_of c.args.cond.now)) at) ∙ c.in_default.is), refl)

pub returns-clause-is : goal.returns-clause-is
returns-clause-is c at =
    let act = Broadcast (place_of c.args.cond.now) in
    ap (broadcast (state_of c.args.p.now c.args.self.now) c.args.t (frame at.locals at.rest ∷ at.more)) (sym (c.condition_at.ensures act at) ∙ c.in-Some.is)
    ∙ ap (Done did.Broadcast) (sym (c.awaken.ensures.is c.args.p.now ∙ ap (all_awakened c.in-Some.condition) (c.go_on.ensures.goes act at)))
