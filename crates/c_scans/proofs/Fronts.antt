-- Each text that isn't empty begins with a piece.
use Rattle.std.proofs.Common.{◌≡◌, ℕ, suc, ◌<◌, ◌≤◌, ◌-◌, Bool, true, false, cond, List, [], ◌∷◌, ◌++◌, length, take, drop, take-append-drop, length-drop, Some, None, refl, sym, ap, subst, ◌∙◌, arith}
use Rattle.std.specs.Prelude.{◌==◌}
use Rattle.std.proofs.lemmas.Bool.Decides.{nat_tests}
use Rattle.c_lexer.specs.Classes.{is_letter, is_digit, is_blank}
use Rattle.c_lexer.specs.Pieces.{Piece, Found, up_to, alone}
use Rattle.c_lexer.specs.Words.{name_of, number_of}
use Rattle.c_lexer.specs.Signs.{single, sign_of, one_byte}
use Rattle.c_lexer.specs.Readings.{after_mark}
use Rattle.c_lexer.specs.Directives.{directive}
use Rattle.c_lexer.specs.Lexeme.{lexeme, slash_of}
use Rattle.c_lexer.proofs.Pieces.{IsRead}
use Rattle.c_lexer.proofs.ReadingPieces.{mark_read}
use Rattle.c_lexer.proofs.DirectivePieces.{hash_read}
use Rattle.c_scans.proofs.Lengths.{mark_leaves, directive_leaves}

-- so many bytes at the front of a text are a piece
pub record Begins (first : Bool) (text : List ℕ) : Type 0 where
  pub size : ℕ
  pub some : 0 < size
  pub within : size ≤ length text
  pub piece : Piece
  pub is : lexeme first (take size text) (drop size text) ≡ Some piece

up_to_same : (rest : List ℕ) (found : Found) → length found.left ≡ length rest → up_to rest found ≡ Some found.piece
up_to_same rest found e = let same : (length found.left == length rest) ≡ true = grind (arith, nat_tests) in rw same refl

-- a piece that says itself where it ends
read_begins : (first : Bool) (b : ℕ) (read : List ℕ → Found) (text : List ℕ) → IsRead first (b ∷ []) read → length (read text).left ≤ length text → Begins first (b ∷ text)
read_begins first b read text same le =
    let n : ℕ = length text - length (read text).left in
    let whole : take n text ++ drop n text ≡ text = take-append-drop n text in
    let size : length (drop n text) ≡ length text - n = length-drop n text in
    record {
      size = suc n;
      some = omega arith;
      within = omega (arith, le);
      piece = (read text).piece;
      is = same (take n text) (drop n text) ∙ ap (λ x. up_to (drop n text) (read x)) whole ∙ up_to_same (drop n text) (read text) (omega (arith, le, size));
    }

-- one byte is a piece, where it begins no text and no preprocessor line
one_begins : (first : Bool) (b : ℕ) (text : List ℕ) → (b == 34) ≡ false → (b == 35) ≡ false → Begins first (b ∷ text)
unfolding lexeme
one_begins first b text mark hash =
    let one = by (is_letter b) (is_digit b) (is_blank b) (b == 34) (b == 35) (b == 47) mark hash in
    record { size = 1; some = omega arith; within = omega arith; piece = one.0; is = one.1 }
  where
    by : (letter digit blank mark hash slash : Bool) → mark ≡ false → hash ≡ false
        → (piece : Piece) × (cond letter (Some (name_of 1)) (cond digit (Some (number_of (b ∷ []))) (cond blank (alone Piece.skip [])
        (cond mark (up_to text (after_mark text)) (cond hash (up_to text (directive first text)) (cond slash (slash_of [] text) (sign_of b [])))))) ≡ Some piece)
    by true digit blank mark hash slash m h = (name_of 1, refl)
    by false true blank mark hash slash m h = (number_of (b ∷ []), refl)
    by false false true mark hash slash m h = (Piece.skip, refl)
    by false false false true hash slash m h = absurd (cc)
    by false false false false true slash m h = absurd (cc)
    by false false false false false true m h = (one_byte (single 47), refl)
    by false false false false false false m h = (one_byte (single b), refl)

pub begins : (first : Bool) (b : ℕ) (text : List ℕ) → Begins first (b ∷ text)
begins first b text = by (b == 34) (b == 35) refl refl
  where
    by : (mark hash : Bool) → (b == 34) ≡ mark → (b == 35) ≡ hash → Begins first (b ∷ text)
    by true hash m h = let is : b ≡ 34 = grind (arith, nat_tests) in rw is (read_begins first 34 after_mark text (mark_read first) (mark_leaves text))
    by false true m h = let is : b ≡ 35 = grind (arith, nat_tests) in rw is (read_begins first 35 (directive first) text (hash_read first) (directive_leaves first text))
    by false false m h = one_begins first b text m h
