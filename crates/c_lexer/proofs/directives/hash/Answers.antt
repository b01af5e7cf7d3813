use Rattle.std.proofs.Common.{refl}
use Rattle.c_lexer.specs.declared.piece.Fault.TheVariants as f
use Rattle.c_lexer.specs.Pieces.{Piece}
use Rattle.c_lexer.proofs.DirectivePieces.{later_cut}
use Rattle.c_lexer.proofs.directives.hash.Goals as goal

pub returns-else-first : goal.returns-else-first
returns-else-first c = rw c.if-first.false (record {
  piece = Piece.refused f.BadLine;
  begins = later_cut c.args.text.now c.requires.some c.requires.hash;
  shows = refl;
})
