use Rattle.std.proofs.Common.{refl, arith}
use Rattle.c_lexer.specs.declared.piece.Fault.TheVariants as f
use Rattle.c_lexer.specs.Pieces.{Kind, Piece}
use Rattle.c_lexer.proofs.ReadingPieces.{quoted_cut, long_cut, bad_cut}
use Rattle.c_lexer.proofs.texts.quoted.Goals as goal

pub returns-in_default : goal.returns-in_default
returns-in_default c = λ first place. record {
  piece = Piece.refused f.BadText;
  begins = bad_cut first c.args.text.now c.requires.some c.requires.mark (rw c.from.ensures at c.in_default.ensures);
  shows = refl;
}

pub returns-then-len : goal.returns-then-len
returns-then-len c = λ first place.
    let e = c.in-Some.ensures in
    record {
      piece = Piece.refused f.BadText;
      begins = long_cut first c.args.text.now c.in-Some.len c.requires.some c.requires.mark (rw c.from.ensures at e.within) (rw c.from.ensures at e.reads) (omega arith);
      shows = refl;
    }

pub returns : goal.returns
returns c = λ first place.
    let e = c.in-Some.ensures in
    record {
      piece = Piece.token Kind.text;
      begins = quoted_cut first c.args.text.now c.in-Some.len c.requires.some c.requires.mark (rw c.from.ensures at e.within) (rw c.from.ensures at e.reads) (omega arith);
      shows = refl;
    }
