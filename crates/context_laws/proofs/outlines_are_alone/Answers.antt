use Rattle.context_laws.proofs.ProgramWalk.{outlined_once}
use Rattle.context_laws.proofs.outlines_are_alone.Goals as goal

pub returns : goal.returns
returns c = outlined_once
