use Rattle.context_laws.proofs.Sound.{walk_outlined}
use Rattle.context_laws.proofs.walks_find_outlines.Goals as goal

pub returns : goal.returns
returns c = walk_outlined
