use Rattle.c_lexer.proofs.Steps.{lines_add}
use Rattle.c_lexer.proofs.lexer.lines_add_up.Goals as goal

pub returns : goal.returns
returns c = lines_add
