-- What the pieces of a text are.
use Rattle.std.specs.Prelude.{ℕ, ◌==◌, List, [], ◌∷◌, length, Option, Some, None, if◌then◌else◌}
use Rattle.c_lexer.specs.declared.token.Sign.{Sign}
use Rattle.c_lexer.specs.declared.piece.Fault.{Fault}

-- What a token is, its place apart. A definition has the bytes of its name, and its number.
pub data Kind : Type 0 where
  name : Kind
  number : ℕ → Kind
  text : Kind
  sign : Sign → Kind
  define : List ℕ → ℕ → Kind

-- What bytes are, taken together: a blank, comment or include, a token, or bytes that are refused.
pub data Piece : Type 0 where
  skip : Piece
  token : Kind → Piece
  refused : Fault → Piece

-- What a reading of a text finds at its front, and what is left of the text after that.
pub record Found : Type 0 where
  pub piece : Piece
  pub left : List ℕ

-- What was found, if it ends where the rest of the text begins. Both are ends of the same text, so their lengths tell.
abbrev pub up_to : List ℕ → Found → Option Piece
up_to rest found = if length found.left == length rest then Some found.piece else None

-- This piece, if no further bytes belong to it.
abbrev pub alone : Piece → List ℕ → Option Piece
alone piece [] = Some piece
alone piece (b ∷ w) = None
