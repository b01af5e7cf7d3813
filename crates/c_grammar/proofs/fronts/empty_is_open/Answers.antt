use Rattle.c_grammar.proofs.OpenFronts.{empty_is_open}
use Rattle.c_grammar.proofs.fronts.empty_is_open.Goals as goal

pub returns : goal.returns
returns c = empty_is_open
