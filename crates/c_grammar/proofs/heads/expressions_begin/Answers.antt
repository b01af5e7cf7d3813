use Rattle.c_grammar.proofs.Beginnings.{expressions_begin}
use Rattle.c_grammar.proofs.heads.expressions_begin.Goals as goal

pub returns : goal.returns
returns c = expressions_begin
