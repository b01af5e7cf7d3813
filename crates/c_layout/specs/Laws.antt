-- What holds of layouts.
use Rattle.std.specs.Prelude.{◌≡◌, ℕ, ◌≤◌, Bool, true, false, ◌==◌, ◌||◌, List, [], ◌∷◌}
use Rattle.std.specs.Fmt.{decimal}
use Rattle.c_lexer.specs.declared.token.Sign.{Sign}
use Rattle.c_lexer.specs.declared.token.Sign.TheVariants as s
use Rattle.c_lexer.specs.Classes.{is_word}
use Rattle.c_lexer.specs.Pieces.{Kind, Piece}
use Rattle.c_lexer.specs.Words.{largest}
use Rattle.c_lexer.specs.Directives.{headers}
use Rattle.c_lexer.specs.Lexeme.{Longest}
use Rattle.c_lexer.specs.Tokens.{Tokens}
use Rattle.c_layout.specs.Layout.{Item, text, words, Parted, IsName, IsQuotable, spelling, in_quotes, include_line}

-- The text of a parted layout is read as its tokens.
abbrev pub Reading : Type 0
Reading = (items : List Item) → Parted true items [] → Tokens (text items) (words [] items)

-- The text ends, or its first byte fails the test.
abbrev pub Stops : (ℕ → Bool) → List ℕ → Type 0
Stops test [] = Unit {0}
Stops test (c ∷ rest) = test c ≡ false

abbrev pub Names : Type 0
Names = (w rest : List ℕ) → IsName w → Stops is_word rest → (first : Bool) → Longest first w rest (Piece.token Kind.name)

abbrev pub Numbers : Type 0
Numbers = (n : ℕ) (rest : List ℕ) → n ≤ largest → Stops is_word rest → (first : Bool) → Longest first (decimal n) rest (Piece.token (Kind.number n))

abbrev pub Quotes : Type 0
Quotes = (w rest : List ℕ) → IsQuotable w → (first : Bool) → Longest first (in_quotes w) rest (Piece.token Kind.text)

-- The bytes that go on a sign to a longer one, or to the beginning of a comment.
abbrev pub goes_on : Sign → ℕ → Bool
goes_on s.Ampersand c = c == 38
goes_on s.Star c = c == 61
goes_on s.Assign c = c == 61
goes_on s.Less c = c == 61
goes_on s.Greater c = c == 61
goes_on s.Plus c = (c == 61) || (c == 43)
goes_on s.Minus c = (c == 61) || (c == 45)
goes_on s.Slash c = (c == 61) || (c == 42) || (c == 47)
goes_on s.Percent c = c == 61
goes_on s.Not c = c == 61
goes_on sign c = false

abbrev pub Signs : Type 0
Signs = (sign : Sign) (rest : List ℕ) → Stops (goes_on sign) rest → (first : Bool) → Longest first (spelling sign) rest (Piece.token (Kind.sign sign))

-- One of these.
pub data OneOf {A : Type 0} (x : A) : List A → Type 0 where
  head : {xs : List A} → OneOf x (x ∷ xs)
  later : {y : A} {xs : List A} → OneOf x xs → OneOf x (y ∷ xs)

abbrev pub Includes : Type 0
Includes = (header rest : List ℕ) → OneOf header headers → Longest true (include_line header) rest Piece.skip
