use Rattle.std.proofs.Common.{arith}
use Rattle.c_lexer.proofs.WordPieces.{too_large}
use Rattle.c_lexer.proofs.words.value.Goals as goal

pub returns-then-more-gt-LARGEST : goal.returns-then-more-gt-LARGEST
returns-then-more-gt-LARGEST c = too_large c.args.digits.now c.loop-digit.digit-index c.loop-digit.value c.loop-digit.invariant.0 (omega arith) (omega arith)
