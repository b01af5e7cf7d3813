use Rattle.std.proofs.Common.{arith}
use Rattle.c_lexer.specs.Tokens.{line}
use Rattle.c_parser.proofs.parser.last_line.Goals as goal

pub returns : goal.returns
unfolding line
returns c = let e = c.newlines.ensures.count in omega (arith, e)
