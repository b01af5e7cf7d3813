use Rattle.std.proofs.Common.{◌∙◌, subst}
use Rattle.context_walk.specs.Shown.{shown_item}
use Rattle.context_walk.specs.Steps.{FitsItem}
use Rattle.std.proofs.Common.{length}
use Rattle.context_walk.proofs.Preparing.{callee_found}
use Rattle.context_walk.proofs.functions.Functions.step.Goals as goal

pub returns-in-Calls-clause-step : goal.returns-in-Calls-clause-step
returns-in-Calls-clause-step c =
    (c.callee.ensures ∙ callee_found c.args.self.now c.requires.so_far c.in-Calls.name.now, subst (λ i. FitsItem (length c.args.self.now.program.now.monitors) (shown_item i)) c.in-Calls.is c.requires.fits)
