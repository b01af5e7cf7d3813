use Rattle.c_check.proofs.Few.{resources_so}
use Rattle.c_check.proofs.laws.resources_are_of_the_program.Goals as goal

pub returns : goal.returns
returns c = λ p name index. resources_so 0 p.mutexes name index
