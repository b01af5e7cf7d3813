use Rattle.std.proofs.Common.{arith, sym, ◌∙◌}
use Rattle.c_lexer.proofs.ReadingPieces.{close_end}
use Rattle.c_lexer.proofs.comments.close_len.Goals as goal

pub returns : goal.returns
returns c = sym c.loop-at.invariant.1 ∙ close_end c.args.text.now c.loop-at.at (omega arith)
