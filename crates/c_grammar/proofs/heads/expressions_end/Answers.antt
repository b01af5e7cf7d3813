use Rattle.c_grammar.proofs.Beginnings.{expressions_end}
use Rattle.c_grammar.proofs.heads.expressions_end.Goals as goal

pub returns : goal.returns
returns c = expressions_end
