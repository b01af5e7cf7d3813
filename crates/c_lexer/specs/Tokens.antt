-- The tokens of a text, and the token that is found first from a place on.
use Rattle.std.specs.Prelude.{◌≡◌, ℕ, suc, ◌+◌, Bool, true, ◌&&◌, ◌||◌, List, [], ◌∷◌, ◌++◌, length, Option, Some, None, Result, Ok, Err}
use Rattle.std.specs.List.{fold, count_by}
use Rattle.c_lexer.specs.declared.token.Token.{Token}
use Rattle.c_lexer.specs.declared.token.Token.TheVariants as t
use Rattle.c_lexer.specs.declared.token.LexError.{LexError}
use Rattle.c_lexer.specs.declared.token.LexError.TheVariants as e
use Rattle.c_lexer.specs.declared.token.Span.{Span}
use Rattle.c_lexer.specs.declared.piece.Fault.{Fault}
use Rattle.c_lexer.specs.declared.piece.Fault.TheVariants as f
use Rattle.c_lexer.specs.Classes.{is_newline, is_space}
use Rattle.c_lexer.specs.Pieces.{Kind, Piece}
use Rattle.c_lexer.specs.Directives.{name_place}
use Rattle.c_lexer.specs.Lexeme.{Longest}

-- Only spaces and tabs stand between the last newline of these bytes and what follows them.
unfoldable pub is_first : List ℕ → Bool
is_first before = fold (λ so b. is_newline b || (so && is_space b)) true before

-- The line of what follows these bytes.
unfoldable pub line : List ℕ → ℕ
line before = suc (count_by is_newline before)

-- A token of a text: what it is, its bytes and its line.
pub record Word : Type 0 where
  pub kind : Kind
  pub bytes : List ℕ
  pub line : ℕ

-- A token of this kind at this place of a text, which goes on so from there.
abbrev pub token_of : ℕ → List ℕ → Kind → Token
token_of place all Kind.name = t.Name
token_of place all (Kind.number value) = t.Number value
token_of place all Kind.text = t.Text
token_of place all (Kind.sign sign) = t.Sign sign
token_of place all (Kind.define name value) = t.Define (record { start = place + name_place all; end = place + name_place all + length name }) value

-- What is refused, with its line.
abbrev pub error_of : Fault → ℕ → LexError
error_of f.BadByte line = e.BadByte line
error_of f.OpenComment line = e.OpenComment line
error_of f.BadNumber line = e.BadNumber line
error_of f.NumberTooLarge line = e.NumberTooLarge line
error_of f.LongName line = e.LongName line
error_of f.BadText line = e.BadText line
error_of f.BadLine line = e.BadLine line

-- The rest of a text, before which these bytes stand, is these tokens, with blanks, comments and includes between them,
-- up to its end, or up to what is refused in it. Each piece is the longest one at its place.
pub data Scan : List ℕ → List ℕ → List Word → Option LexError → Type 0 where
  ended : {before : List ℕ} → Scan before [] [] None
  refused : {before all w rest : List ℕ} {fault : Fault} → all ≡ w ++ rest → Longest (is_first before) w rest (Piece.refused fault)
      → Scan before all [] (Some (error_of fault (line before)))
  skip : {before all w rest : List ℕ} {words : List Word} {end : Option LexError} → all ≡ w ++ rest → Longest (is_first before) w rest Piece.skip
      → Scan (before ++ w) rest words end → Scan before all words end
  word : {before all w rest : List ℕ} {kind : Kind} {words : List Word} {end : Option LexError} → all ≡ w ++ rest → Longest (is_first before) w rest (Piece.token kind)
      → Scan (before ++ w) rest words end → Scan before all (record { kind = kind; bytes = w; line = line before } ∷ words) end

-- The tokens of a text.
abbrev pub Tokens : List ℕ → List Word → Type 0
Tokens text words = Scan [] text words None

-- What is found at a piece that isn't skipped.
abbrev pub answer : List ℕ → List ℕ → List ℕ → Piece → Option (Result (Option (Token × Span)) LexError)
answer before all w Piece.skip = None
answer before all w (Piece.token kind) =
    Some (Ok (Some (token_of (length before) all kind, record { start = length before; end = length before + length w })))
answer before all w (Piece.refused fault) = Some (Err (error_of fault (line before)))

-- What is found first in the rest of a text, before which these bytes stand.
pub data Next : List ℕ → List ℕ → Result (Option (Token × Span)) LexError → Type 0 where
  none : {before : List ℕ} → Next before [] (Ok None)
  past : {before all w rest : List ℕ} {found : Result (Option (Token × Span)) LexError} → all ≡ w ++ rest → Longest (is_first before) w rest Piece.skip
      → Next (before ++ w) rest found → Next before all found
  here : {before all w rest : List ℕ} {piece : Piece} {found : Result (Option (Token × Span)) LexError} → all ≡ w ++ rest → Longest (is_first before) w rest piece
      → answer before all w piece ≡ Some found → Next before all found
