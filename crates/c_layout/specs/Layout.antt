-- Layouts: the tokens of a text and what stands between them.
use Rattle.std.specs.Prelude.{◌≡◌, ℕ, ◌≤◌, Bool, true, ◌&&◌, ◌||◌, List, [], ◌∷◌, ◌++◌, length, nat_le, slice_index, codes, Some}
use Rattle.std.specs.List.{fold, list_all}
use Rattle.std.specs.Fmt.{decimal}
use Rattle.c_lexer.specs.declared.token.Sign.{Sign}
use Rattle.c_lexer.specs.declared.token.Sign.TheVariants as s
use Rattle.c_lexer.specs.Classes.{is_letter, is_word, is_space, is_blank, is_newline}
use Rattle.c_lexer.specs.Pieces.{Kind, Piece}
use Rattle.c_lexer.specs.Readings.{after_quote}
use Rattle.c_lexer.specs.Lexeme.{Longest}
use Rattle.c_lexer.specs.Tokens.{Word, line}

-- ---- items

-- A token with its bytes, or bytes that separate tokens.
pub data Item : Type 0 where
  token : Kind → List ℕ → Item
  gap : List ℕ → Item

-- The bytes of a layout.
abbrev pub text : List Item → List ℕ
text [] = []
text (token kind w ∷ items) = w ++ text items
text (gap w ∷ items) = w ++ text items

-- The tokens of a layout that stands behind these bytes.
abbrev pub words : List ℕ → List Item → List Word
words before [] = []
words before (token kind w ∷ items) = record { kind = kind; bytes = w; line = line before } ∷ words (before ++ w) items
words before (gap w ∷ items) = words (before ++ w) items

-- ---- the items that programs are written with

-- A name or a keyword.
abbrev pub word : List ℕ → Item
word w = token Kind.name w

-- A number in decimal.
abbrev pub number : ℕ → Item
number n = token (Kind.number n) (decimal n)

-- A text in quotes, of these bytes between them.
abbrev pub in_quotes : List ℕ → List ℕ
in_quotes w = 34 ∷ (w ++ 34 ∷ [])

abbrev pub quoted : List ℕ → Item
quoted w = token Kind.text (in_quotes w)

-- How each sign is spelled.
abbrev pub spelling : Sign → List ℕ
spelling s.LeftParenthesis = codes "("
spelling s.RightParenthesis = codes ")"
spelling s.LeftBrace = codes "{"
spelling s.RightBrace = codes "}"
spelling s.LeftBracket = codes "["
spelling s.RightBracket = codes "]"
spelling s.Semicolon = codes ";"
spelling s.Comma = codes ","
spelling s.Ampersand = codes "&"
spelling s.Star = codes "*"
spelling s.Assign = codes "="
spelling s.Equal = codes "=="
spelling s.NotEqual = codes "!="
spelling s.Less = codes "<"
spelling s.LessEqual = codes "<="
spelling s.Greater = codes ">"
spelling s.GreaterEqual = codes ">="
spelling s.Plus = codes "+"
spelling s.Minus = codes "-"
spelling s.Slash = codes "/"
spelling s.Percent = codes "%"
spelling s.Not = codes "!"
spelling s.And = codes "&&"
spelling s.Or = codes "||"
spelling s.AddAssign = codes "+="
spelling s.SubtractAssign = codes "-="
spelling s.MultiplyAssign = codes "*="
spelling s.DivideAssign = codes "/="
spelling s.RemainderAssign = codes "%="
spelling s.Increment = codes "++"
spelling s.Decrement = codes "--"
spelling s.Ellipsis = codes "..."

abbrev pub sign : Sign → Item
sign x = token (Kind.sign x) (spelling x)

-- The usual gaps, and a line that includes a header, without its newline.
abbrev pub space : Item
space = gap (codes " ")

abbrev pub newline : Item
newline = gap (codes "\n")

abbrev pub include_line : List ℕ → List ℕ
include_line header = codes "#include " ++ header

abbrev pub include : List ℕ → Item
include header = gap (include_line header)

-- ---- when the tokens are found again

-- Bytes that separate tokens where this is the rest of the text: blanks, or one comment or include.
-- The flag says that only spaces and tabs stand before them on their line.
pub data Separates (first : Bool) (w rest : List ℕ) : Type 0 where
  blanks : list_all is_blank w ≡ true → Separates first w rest
  skipped : Longest first w rest Piece.skip → Separates first w rest

-- The same flag after these bytes.
abbrev pub first_after : Bool → List ℕ → Bool
first_after first w = fold (λ so b. is_newline b || (so && is_space b)) first w

-- Each token is the longest at its place, and each gap separates tokens, where `rest` follows the layout.
abbrev pub Parted : Bool → List Item → List ℕ → Type 0
Parted first [] rest = Unit {0}
Parted first (token kind w ∷ items) rest = Longest first w (text items ++ rest) (Piece.token kind) × Parted (first_after first w) items rest
Parted first (gap w ∷ items) rest = Separates first w (text items ++ rest) × Parted (first_after first w) items rest

-- ---- what may stand in a layout

-- A letter or `_`, then letters, digits and `_`, at most 63 in all.
abbrev pub is_name : List ℕ → Bool
is_name w = is_letter (slice_index w 0) && list_all is_word w && nat_le (length w) 63

abbrev pub IsName : List ℕ → Type 0
IsName w = is_name w ≡ true

-- At most 120 bytes that may stand in a text, its end quote apart.
pub record IsQuotable (w : List ℕ) : Type 0 where
  pub ends : after_quote (w ++ 34 ∷ []) ≡ Some []
  pub short : length w ≤ 120
