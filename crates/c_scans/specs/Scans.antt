-- How far a text is tokens.
use Rattle.std.specs.Prelude.{ℕ, List, []}
use Rattle.std.specs.declared.option.Option.{Option}
use Rattle.c_lexer.specs.declared.token.LexError.{LexError}
use Rattle.c_lexer.specs.Tokens.{Word, Scan}

-- From a place of a text on, where these bytes stand before it, there are tokens up to its end, or up to what is refused.
pub record IsScanned (before all : List ℕ) : Type 0 where
  pub words : List Word
  pub end : Option LexError
  pub scan : Scan before all words end

abbrev pub EachIsScanned : Type 0
EachIsScanned = (text : List ℕ) → IsScanned [] text
