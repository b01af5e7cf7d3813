use Rattle.std.proofs.Common.{refl}
use Rattle.c_lexer.specs.declared.piece.Fault.TheVariants as f
use Rattle.c_lexer.specs.Pieces.{Piece}
use Rattle.c_lexer.proofs.ReadingPieces.{block_cut, open_cut}
use Rattle.c_lexer.proofs.comments.block_comment.Goals as goal

pub returns-in-Some : goal.returns-in-Some
returns-in-Some c = λ first place.
    let r = c.requires in
    let e = c.in-Some.ensures in
    record {
      piece = Piece.skip;
      begins = block_cut first c.args.text.now c.in-Some.len r.some r.slash r.star (rw c.from.ensures at e.within) (rw c.from.ensures at e.reads);
      shows = refl;
    }

pub returns-in-None : goal.returns-in-None
returns-in-None c = λ first place.
    let r = c.requires in
    record {
      piece = Piece.refused f.OpenComment;
      begins = open_cut first c.args.text.now r.some r.slash r.star (rw c.from.ensures at c.in-None.ensures);
      shows = refl;
    }
