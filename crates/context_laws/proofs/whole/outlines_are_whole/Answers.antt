use Rattle.context_laws.proofs.WholeOutlines.{outlines_whole}
use Rattle.context_laws.proofs.whole.outlines_are_whole.Goals as goal

pub returns : goal.returns
returns c = outlines_whole
