use Rattle.step_effects.proofs.Steps.{each_effect}
use Rattle.step_effects.proofs.each_step_has_one_effect.Goals as goal

pub returns : goal.returns
returns c = each_effect
