use Rattle.std.proofs.Common.{sym, ◌∙◌, refl}
use Rattle.c_lexer.specs.Pieces.{Piece}
use Rattle.c_lexer.proofs.SignPieces.{by_signs}
use Rattle.c_lexer.proofs.WordPieces.{blank_cut}
use Rattle.c_lexer.proofs.lexer.plain.Goals as goal

pub sign-requires-clause-by : goal.sign-requires-clause-by
sign-requires-clause-by c =
    by_signs c.args.text.now c.requires.some (sym c.is_letter.ensures ∙ c.if-is_letter.false) (sym c.is_digit.ensures ∙ c.if-is_digit.false)
    (sym c.is_blank.ensures ∙ c.if-is_blank.false) c.if-b-eq34.false c.requires.no_hash c.if-b-eq47.false

pub returns-then-is_blank : goal.returns-then-is_blank
returns-then-is_blank c = λ first place. record {
  piece = Piece.skip;
  begins = blank_cut first c.args.text.now c.requires.some (sym c.is_letter.ensures ∙ c.if-is_letter.false) (sym c.is_digit.ensures ∙ c.if-is_digit.false)
      (sym c.is_blank.ensures ∙ c.if-is_blank.true);
  shows = refl;
}
