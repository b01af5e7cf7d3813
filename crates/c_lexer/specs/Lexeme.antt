-- What the bytes of a text are, taken together, and the longest such piece at a place.
use Rattle.std.specs.Prelude.{◌≡◌, ℕ, ◌≤◌, Bool, if◌then◌else◌, ◌==◌, List, [], ◌∷◌, ◌++◌, length, take, drop, Option, Some, None}
use Rattle.std.specs.List.{list_all}
use Rattle.c_lexer.specs.Classes.{is_letter, is_digit, is_word, is_blank}
use Rattle.c_lexer.specs.Pieces.{Piece, up_to, alone}
use Rattle.c_lexer.specs.Words.{name_of, number_of}
use Rattle.c_lexer.specs.Signs.{sign_of}
use Rattle.c_lexer.specs.Readings.{block_comment, line_comment, after_mark}
use Rattle.c_lexer.specs.Directives.{directive}

-- What a `/` and the bytes after it are: a comment or a sign.
abbrev pub slash_of : List ℕ → List ℕ → Option Piece
slash_of [] rest = sign_of 47 []
slash_of (c ∷ w) rest =
    if c == 42 then up_to rest (block_comment (w ++ rest))
    else (if c == 47 then up_to rest (line_comment (w ++ rest)) else sign_of 47 (c ∷ w))

-- What these bytes of a text are, all together, where this is the rest of the text after them; None where they are no piece.
-- The flag says that only spaces and tabs stand before them on their line.
unfoldable pub lexeme : Bool → List ℕ → List ℕ → Option Piece
lexeme first [] rest = None
lexeme first (b ∷ w) rest =
    if is_letter b then (if list_all is_word w then Some (name_of (length (b ∷ w))) else None)
    else (if is_digit b then (if list_all is_word w then Some (number_of (b ∷ w)) else None)
    else (if is_blank b then alone Piece.skip w
    else (if b == 34 then up_to rest (after_mark (w ++ rest))
    else (if b == 35 then up_to rest (directive first (w ++ rest))
    else (if b == 47 then slash_of w rest
    else sign_of b w)))))

-- The bytes are this piece, and with more bytes of the rest they would be none: ISO/IEC 9899:1999, section 6.4, paragraph 4.
pub record Longest (first : Bool) (w rest : List ℕ) (piece : Piece) : Type 0 where
  pub is : lexeme first w rest ≡ Some piece
  pub longer : (c : ℕ) (more after : List ℕ) → rest ≡ c ∷ (more ++ after) → lexeme first (w ++ c ∷ more) after ≡ None

-- A text begins with this piece, which has so many bytes.
pub record IsCut (first : Bool) (text : List ℕ) (piece : Piece) (len : ℕ) : Type 0 where
  pub within : len ≤ length text
  pub longest : Longest first (take len text) (drop len text) piece

-- A text begins with a sign or with a byte that is refused, if with anything.
pub record BySigns (text : List ℕ) : Type 0 where
  pub is : (first : Bool) (b : ℕ) (w rest : List ℕ) → text ≡ b ∷ (w ++ rest) → lexeme first (b ∷ w) rest ≡ sign_of b w

-- A reading goes up to this place of a text.
pub record ReadsTo (read : List ℕ → Option (List ℕ)) (text : List ℕ) (n : ℕ) : Type 0 where
  pub within : n ≤ length text
  pub reads : read text ≡ Some (drop n text)
