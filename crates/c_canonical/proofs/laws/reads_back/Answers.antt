use Rattle.c_canonical.proofs.ProgramParts.{reads_back}
use Rattle.c_canonical.proofs.laws.reads_back.Goals as goal

pub returns : goal.returns
returns c = reads_back
