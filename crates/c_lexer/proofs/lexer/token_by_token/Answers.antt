use Rattle.c_lexer.proofs.TextLaws.{stepwise}
use Rattle.c_lexer.proofs.lexer.token_by_token.Goals as goal

pub returns : goal.returns
returns c = stepwise
