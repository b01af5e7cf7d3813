-- What holds of the tokens of every text.
use Rattle.std.specs.Prelude.{◌≡◌, ℕ, ◌+◌, ◌-◌, ◌<◌, ◌≤◌, List, [], ◌∷◌, ◌++◌, length, take, drop, Option, Some, None, Result, Ok, Err}
use Rattle.std.specs.List.{count_by}
use Rattle.c_lexer.specs.declared.token.Token.{Token}
use Rattle.c_lexer.specs.declared.token.Token.TheVariants as t
use Rattle.c_lexer.specs.declared.token.LexError.{LexError}
use Rattle.c_lexer.specs.declared.token.Span.{Span}
use Rattle.c_lexer.specs.Classes.{is_newline}
use Rattle.c_lexer.specs.Pieces.{Kind, Piece}
use Rattle.c_lexer.specs.Directives.{name_place}
use Rattle.c_lexer.specs.Lexeme.{Longest}
use Rattle.c_lexer.specs.Tokens.{is_first, line, Word, token_of, Scan, Next}

-- From each place of a text one thing is found next.
abbrev pub OneNext : Type 0
OneNext = (before all : List ℕ) (found other : Result (Option (Token × Span)) LexError) → Next before all found → Next before all other → found ≡ other

-- A text has one list of tokens, up to its end or to what is refused in it, and the two exclude each other.
abbrev pub OneScan : Type 0
OneScan = (before all : List ℕ) (words others : List Word) (end last : Option LexError)
    → Scan before all words end → Scan before all others last → (words ≡ others) × (end ≡ last)

-- The bytes of a text at a span.
abbrev pub slice : List ℕ → ℕ → ℕ → List ℕ
slice text start end = take (end - start) (drop start text)

-- From one place of a text to another there are whole tokens, blanks, comments and includes. A place is given by the bytes before it and those after it.
pub data Whole : List ℕ → List ℕ → List ℕ → List ℕ → Type 0 where
  nothing : {before all : List ℕ} → Whole before all before all
  one_skip : {before all w rest place left : List ℕ} → all ≡ w ++ rest → Longest (is_first before) w rest Piece.skip
      → Whole (before ++ w) rest place left → Whole before all place left
  one_token : {before all w rest place left : List ℕ} {kind : Kind} → all ≡ w ++ rest → Longest (is_first before) w rest (Piece.token kind)
      → Whole (before ++ w) rest place left → Whole before all place left

-- This place of a text isn't inside a token, a comment or a preprocessor line.
abbrev pub IsBetween : List ℕ → ℕ → Type 0
IsBetween text at = Whole [] text (take at text) (drop at text)

-- The token at a span of a text, of this kind.
abbrev pub word_at : List ℕ → Span → Kind → Word
word_at text span kind = record { kind = kind; bytes = slice text span.start span.end; line = line (take span.start text) }

-- A list of tokens that begins with this one, and goes on from this place of the text.
pub record Begins (text : List ℕ) (place : ℕ) (first : Word) (words : List Word) (end : Option LexError) : Type 0 where
  pub others : List Word
  pub is : words ≡ first ∷ others
  pub go_on : Scan (take place text) (drop place text) others end

-- What is known where this token was found at this span, from this place of a text on.
pub record Follows (text : List ℕ) (at : ℕ) (token : Token) (span : Span) : Type 0 where
  pub kind : Kind
  pub is : token ≡ token_of span.start (drop span.start text) kind
  -- the span is in the text, at or after the place
  pub after : at ≤ span.start
  pub some : span.start < span.end
  pub within : span.end ≤ length text
  -- the tokens from the place on are this one and those from the span's end on
  pub adds : (words : List Word) (end : Option LexError)
      → Scan (take span.end text) (drop span.end text) words end → Scan (take at text) (drop at text) (word_at text span kind ∷ words) end
  pub begins : (words : List Word) (end : Option LexError)
      → Scan (take at text) (drop at text) words end → Begins text span.end (word_at text span kind) words end
  -- the defined name stands at its span, inside the token's
  pub named : (name : List ℕ) (value : ℕ) → kind ≡ Kind.define name value
      → (slice text (span.start + name_place (drop span.start text)) (span.start + name_place (drop span.start text) + length name) ≡ name)
      × (span.start + name_place (drop span.start text) + length name ≤ span.end)
  -- the span's end isn't inside a piece
  pub between : IsBetween text at → IsBetween text span.end

-- One token after another is found, up to the end of a text or what is refused in it.
pub record Stepwise (text : List ℕ) (at : ℕ) : Type 0 where
  pub ends : Next (take at text) (drop at text) (Ok None) → Scan (take at text) (drop at text) [] None
  pub stops : (error : LexError) → Next (take at text) (drop at text) (Err error) → Scan (take at text) (drop at text) [] (Some error)
  pub follows : (token : Token) (span : Span) → Next (take at text) (drop at text) (Ok (Some (token, span))) → Follows text at token span

-- The tokens of every text are those that are found one after another.
abbrev pub TokenByToken : Type 0
TokenByToken = (text : List ℕ) (at : ℕ) → at ≤ length text → Stepwise text at

-- A line is counted on over the bytes from one place to another.
abbrev pub LinesAddUp : Type 0
LinesAddUp = (before bytes : List ℕ) → line (before ++ bytes) ≡ line before + count_by is_newline bytes

-- A found token's span isn't empty, and lies between these places of the text.
pub record SpanIn (from upto : ℕ) (span : Span) : Type 0 where
  pub after : from ≤ span.start
  pub some : span.start < span.end
  pub within : span.end ≤ upto

-- The span of a name lies in that of the token.
pub record NameIn (span name : Span) : Type 0 where
  pub after : span.start ≤ name.start
  pub order : name.start ≤ name.end
  pub within : name.end ≤ span.end

-- The name that a token defines, if it is a definition, lies in the token.
abbrev pub DefinesIn : Span → Token → Type 0
DefinesIn span t.Name = Unit {0}
DefinesIn span (t.Number value) = Unit {0}
DefinesIn span t.Text = Unit {0}
DefinesIn span (t.Sign sign) = Unit {0}
DefinesIn span (t.Define name value) = NameIn span name

-- What was found lies between these places of the text, where it is a token.
abbrev pub IsInside : ℕ → ℕ → Result (Option (Token × Span)) LexError → Type 0
IsInside from upto (Ok None) = Unit {0}
IsInside from upto (Ok (Some found)) = SpanIn from upto found.1 × DefinesIn found.1 found.0
IsInside from upto (Err error) = Unit {0}
