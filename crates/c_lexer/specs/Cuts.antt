-- What the code finds at the front of a text, against what stands there.
use Rattle.std.specs.Prelude.{◌≡◌, ℕ, ◌+◌, ◌-◌, ◌≤◌, Bool, List, length, take, drop, Some}
use Rattle.std.specs.List.{prefix_len}
use Rattle.c_lexer.specs.declared.piece.Lexeme.{Lexeme}
use Rattle.c_lexer.specs.declared.piece.Lexeme.TheVariants as l
use Rattle.c_lexer.specs.declared.piece.Cut.{Cut}
use Rattle.c_lexer.specs.declared.directives.Naming.{Naming}
use Rattle.c_lexer.specs.declared.directives.Definition.{Definition}
use Rattle.c_lexer.specs.Classes.{is_space}
use Rattle.c_lexer.specs.Pieces.{Kind, Piece}
use Rattle.c_lexer.specs.Directives.{defined_name, definition, definition_line}
use Rattle.c_lexer.specs.Lexeme.{IsCut}
use Rattle.c_lexer.specs.Tokens.{token_of}

-- A piece as the code has it, at this place of a text that goes on so from there.
abbrev pub shown : ℕ → List ℕ → Piece → Lexeme
shown place all Piece.skip = l.Skip
shown place all (Piece.token kind) = l.Token (token_of place all kind)
shown place all (Piece.refused fault) = l.Refused fault

-- A text, which stands at this place of the whole one, begins with what was found.
pub record Cuts (first : Bool) (place : ℕ) (text : List ℕ) (cut : Cut) : Type 0 where
  pub piece : Piece
  pub begins : IsCut first text piece cut.len
  pub shows : cut.lexeme ≡ shown place text piece

-- A text begins with this name, a gap and this number.
pub record IsNaming (text : List ℕ) (naming : Naming) : Type 0 where
  pub is : defined_name text ≡ Some (record { name = take naming.name_len text; value = naming.value; left = drop naming.len text })
  pub order : naming.name_len ≤ naming.len
  pub within : naming.len ≤ length text

-- The name of a definition stands after `define` and the spaces and tabs there.
pub record IsPlaced (text : List ℕ) (found : Definition) : Type 0 where
  pub start : found.name.start ≡ 6 + prefix_len is_space (drop 6 text)
  pub order : found.name.start ≤ found.name.end
  pub inside : found.name.end ≤ found.len
  pub within : found.len ≤ length text

-- The bytes of its name.
abbrev pub name_of : List ℕ → Definition → List ℕ
name_of text found = take (found.name.end - found.name.start) (drop found.name.start text)

-- A text, after a `#`, begins with this definition up to its number.
pub record IsDefinition (text : List ℕ) (found : Definition) : Type 0 where
  pub is : definition text ≡ Some (record { name = name_of text found; value = found.value; left = drop found.len text })
  pub placed : IsPlaced text found

-- The same up to the end of its line.
pub record IsDefinitionLine (text : List ℕ) (found : Definition) : Type 0 where
  pub is : definition_line text (definition text) ≡ record { piece = Piece.token (Kind.define (name_of text found) found.value); left = drop found.len text }
  pub placed : IsPlaced text found
