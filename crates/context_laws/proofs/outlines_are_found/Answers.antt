use Rattle.context_laws.proofs.ProgramWalk.{outlined_walk}
use Rattle.context_laws.proofs.outlines_are_found.Goals as goal

pub returns : goal.returns
returns c = outlined_walk
