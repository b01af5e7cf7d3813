use Rattle.undefined_steps.proofs.Steps.{undefined_has_cause}
use Rattle.undefined_steps.proofs.Whole.{formed_is_proper}
use Rattle.undefined_steps.proofs.well_formed_programs_are_proper.Goals as goal

pub returns-clause-proper : goal.returns-clause-proper
returns-clause-proper c = formed_is_proper

pub returns-clause-causes : goal.returns-clause-causes
returns-clause-causes c = undefined_has_cause
