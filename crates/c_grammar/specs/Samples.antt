-- Short texts for trying the grammar: their tokens stand with spaces between them.
use Rattle.std.specs.Prelude.{ℕ, suc, ◌==◌, true, if◌then◌else◌, List, [], ◌∷◌, ◌++◌, Option, Some, None}
use Rattle.c_lexer.specs.Pieces.{Kind, Piece}
use Rattle.c_lexer.specs.Lexeme.{lexeme}
use Rattle.c_lexer.specs.Tokens.{Word}
use Rattle.c_tree.specs.Expressions.{Expr, Place}
use Rattle.c_grammar.specs.Items.{Item, items}

-- ---- texts

-- What bytes are that are a whole token.
abbrev pub kind_of : Option Piece → Kind
kind_of (Some (Piece.token kind)) = kind
kind_of other = Kind.text

-- A token, where there are bytes.
abbrev pub word_at : ℕ → List ℕ → List Word → List Word
word_at line [] words = words
word_at line (b ∷ bytes) words = record { kind = kind_of (lexeme true (b ∷ bytes) []); bytes = b ∷ bytes; line = line } ∷ words

-- The tokens of a line that goes on so after these bytes of a token.
abbrev pub words_in : ℕ → List ℕ → List ℕ → List Word
words_in line bytes [] = word_at line bytes []
words_in line bytes (b ∷ text) = if b == 32 then word_at line bytes (words_in line [] text) else words_in line (bytes ++ b ∷ []) text

abbrev pub words_from : ℕ → List (List ℕ) → List Word
words_from line [] = []
words_from line (text ∷ lines) = words_in line [] text ++ words_from (suc line) lines

-- The tokens of a text, which is given by its lines.
abbrev pub words_of : List (List ℕ) → List Word
words_of lines = words_from 1 lines

abbrev pub items_of : List (List ℕ) → List Item
items_of lines = items [] (words_of lines)

-- ---- places

abbrev pub scalar : List ℕ → Place
scalar name = record { name = name; index = None }

abbrev pub member : List ℕ → Expr → Place
member name index = record { name = name; index = Some index }
