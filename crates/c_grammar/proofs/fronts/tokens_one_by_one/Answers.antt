use Rattle.c_grammar.proofs.OpenFronts.{one_by_one}
use Rattle.c_grammar.proofs.fronts.tokens_one_by_one.Goals as goal

pub returns : goal.returns
returns c = one_by_one
