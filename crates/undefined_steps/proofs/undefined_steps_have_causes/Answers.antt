use Rattle.undefined_steps.proofs.Laws.{formed_has_cause}
use Rattle.undefined_steps.proofs.undefined_steps_have_causes.Goals as goal

pub returns : goal.returns
returns c = formed_has_cause
