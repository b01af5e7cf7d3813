use Rattle.c_grammar.proofs.Beginnings.{statement_begins}
use Rattle.c_grammar.proofs.heads.statements_begin.Goals as goal

pub returns : goal.returns
returns c = statement_begins
