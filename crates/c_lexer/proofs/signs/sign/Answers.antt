use Rattle.std.proofs.Common.{◌≡◌, Option, Some, None, arith, ◌∙◌, sym, get_or, refl}
use Rattle.c_lexer.specs.declared.token.Sign.{Sign}
use Rattle.c_lexer.specs.Pieces.{Kind, Piece}
use Rattle.c_lexer.specs.Signs.{single, one_byte}
use Rattle.c_lexer.proofs.SignPieces.{triple_cut, double_cut, single_cut, short}
use Rattle.c_lexer.proofs.signs.sign.Goals as goal

none : (o : Option Sign) → ((x : Sign) → o ≡ Some x → ⊥) → o ≡ None
none None h = refl
none (Some x) h = absurd (h x refl)

pub returns-then-text-le1 : goal.returns-then-text-le1
returns-then-text-le1 c = λ first place.
    let text = c.args.text.now in
    record {
      piece = one_byte (single (get_or text 0 0));
      begins = single_cut first text c.requires.some c.requires.by (λ lt. absurd (omega arith)) (short text (omega arith));
      shows = c.one_byte.ensures place text;
    }

pub returns-in-Some : goal.returns-in-Some
returns-in-Some c = λ first place.
    let text = c.args.text.now in
    record {
      piece = Piece.token (Kind.sign c.in-Some.sign);
      begins = triple_cut first text c.in-Some.sign c.requires.by (sym c.in-Some.ensures);
      shows = refl;
    }

pub returns-in-Some-double : goal.returns-in-Some-double
returns-in-Some-double c = λ first place.
    let text = c.args.text.now in
    record {
      piece = Piece.token (Kind.sign c.in-Some-double.sign);
      begins = double_cut first text c.in-Some-double.sign (omega arith) c.requires.by (sym c.in-Some-double.ensures);
      shows = refl;
    }

pub returns-in-None : goal.returns-in-None
returns-in-None c = λ first place.
    let text = c.args.text.now in
    record {
      piece = one_byte (single (get_or text 0 0));
      begins = single_cut first text c.requires.some c.requires.by (λ lt. sym c.double.ensures ∙ c.in-None.is) (sym c.three_bytes.ensures ∙ none c.three_bytes.result c.in_default.not-Some);
      shows = c.one_byte-in-None.ensures place text;
    }
