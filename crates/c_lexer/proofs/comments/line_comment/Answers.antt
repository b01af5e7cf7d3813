use Rattle.std.proofs.Common.{refl}
use Rattle.c_lexer.specs.Pieces.{Piece}
use Rattle.c_lexer.proofs.ReadingPieces.{line_cut}
use Rattle.c_lexer.proofs.comments.line_comment.Goals as goal

pub returns : goal.returns
returns c = λ first place.
    let r = c.requires in
    record {
      piece = Piece.skip;
      begins = rw (c.line_len.ensures.value, c.from.ensures) (line_cut first c.args.text.now r.some r.slash r.again);
      shows = refl;
    }
