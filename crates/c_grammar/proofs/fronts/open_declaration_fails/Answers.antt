use Rattle.c_grammar.proofs.OpenFronts.{open_declaration_fails}
use Rattle.c_grammar.proofs.fronts.open_declaration_fails.Goals as goal

pub returns : goal.returns
returns c = open_declaration_fails
