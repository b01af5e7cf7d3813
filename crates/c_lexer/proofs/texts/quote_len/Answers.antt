use Rattle.std.proofs.Common.{sym, ◌∙◌, arith}
use Rattle.c_lexer.proofs.ReadingPieces.{quote_here}
use Rattle.c_lexer.proofs.texts.quote_len.Goals as goal

pub returns-then-text-at-eq34 : goal.returns-then-text-at-eq34
returns-then-text-at-eq34 c = record {
  within = omega arith;
  reads = sym c.loop-at.invariant.1 ∙ quote_here c.args.text.now c.loop-at.at c.loop-at-test.true c.if-text-at-eq34.true;
}
