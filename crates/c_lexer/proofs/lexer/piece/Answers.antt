use Rattle.std.proofs.Common.{take}
use Rattle.c_lexer.specs.Tokens.{is_first}
use Rattle.c_lexer.proofs.lexer.piece.Goals as goal

pub returns-else-rest-eq35 : goal.returns-else-rest-eq35
returns-else-rest-eq35 c = rw (← c.from-rest.ensures) (c.plain.ensures (is_first (take c.args.at c.args.text.now)) c.args.at)
