use Rattle.c_grammar.proofs.OpenFronts.{fronts_begin}
use Rattle.c_grammar.proofs.fronts.fronts_begin.Goals as goal

pub returns : goal.returns
returns c = fronts_begin
