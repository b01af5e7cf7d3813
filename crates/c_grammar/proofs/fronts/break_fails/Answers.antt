use Rattle.c_grammar.proofs.OpenFronts.{break_fails}
use Rattle.c_grammar.proofs.fronts.break_fails.Goals as goal

pub returns : goal.returns
returns c = break_fails
