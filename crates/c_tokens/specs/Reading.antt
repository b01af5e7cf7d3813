-- How far a text was read, and why no further.
use Rattle.std.specs.Prelude.{◌≡◌, ◌≤◌, ℕ, List, [], ◌∷◌, ◌++◌, length, Option, Some, None, Result, Ok, Err}
use Rattle.c_lexer.specs.declared.token.LexError.{LexError}
use Rattle.c_lexer.specs.declared.token.Token.{Token}
use Rattle.c_lexer.specs.declared.token.Span.{Span}
use Rattle.c_lexer.specs.Pieces.{Kind, Piece}
use Rattle.c_lexer.specs.Lexeme.{Longest}
use Rattle.c_lexer.specs.Tokens.{Word, Scan, is_first, line}
use Rattle.c_tokens.specs.declared.reader.End.{End}
use Rattle.c_tokens.specs.declared.reader.End.TheVariants as e
use Rattle.c_tokens.specs.declared.reader.Tokens.{Tokens}
use Rattle.c_tokens.specs.Marks.{AllMarked}

-- From one place of a text to another there are these words, with blanks, comments and includes between them. A place is given by the
-- bytes before it and those after it.
pub data Leads : List ℕ → List ℕ → List Word → List ℕ → List ℕ → Type 0 where
  nothing : {before all : List ℕ} → Leads before all [] before all
  one_skip : {before all w rest place left : List ℕ} {words : List Word} → all ≡ w ++ rest → Longest (is_first before) w rest Piece.skip
      → Leads (before ++ w) rest words place left → Leads before all words place left
  one_word : {before all w rest place left : List ℕ} {kind : Kind} {words : List Word} → all ≡ w ++ rest → Longest (is_first before) w rest (Piece.token kind)
      → Leads (before ++ w) rest words place left → Leads before all (record { kind = kind; bytes = w; line = line before } ∷ words) place left

-- The words of a text begin with these.
abbrev pub BeginsWith : List ℕ → List Word → Type 0
BeginsWith text words = (place : List ℕ) × (left : List ℕ) × Leads [] text words place left

-- A further word stands behind these.
abbrev pub GoesOn : List ℕ → List Word → Type 0
GoesOn text words = (word : Word) × BeginsWith text (words ++ word ∷ [])

-- how many words are read at most
abbrev pub most : ℕ
most = 65536

-- Reading ends with the text, at what is refused in it, or where a word more than the most follows.
abbrev pub Stops : List ℕ → List Word → End → Type 0
Stops text words e.Text = Scan [] text words None
Stops text words (e.Refused error) = Scan [] text words (Some error)
Stops text words e.Longer = (length words ≡ most) × GoesOn text words

-- Why no more is read after the most words, by what is found next.
abbrev pub end_of : Result (Option (Token × Span)) LexError → End
end_of (Ok (Some found)) = e.Longer
end_of (Ok None) = e.Text
end_of (Err error) = e.Refused error

-- What was read of a text.
pub record IsRead (text : List ℕ) (tokens : Tokens) : Type 0 where
  pub words : List Word
  pub begins : BeginsWith text words
  pub marked : AllMarked text [] words tokens.marks.items
  pub few : length words ≤ most
  pub stops : Stops text words tokens.end
