-- Where a reader stands in its text.
use Rattle.std.specs.Prelude.{◌≡◌, ◌≤◌, ℕ, List, [], length, take, drop}
use Rattle.c_lexer.specs.Tokens.{Word, line}
use Rattle.c_grammar.specs.Items.{defined_after}
use Rattle.c_tokens.specs.declared.reader.Reader.{Reader}
use Rattle.c_tokens.specs.Known.{Knows}
use Rattle.c_tokens.specs.Marks.{AllMarked}
use Rattle.c_tokens.specs.Reading.{Leads}

-- It has read these words of the text, up to its place, and knows what they define.
pub record Stands (text : List ℕ) (reader : Reader) : Type 0 where
  pub words : List Word
  pub same : reader.text.now ≡ text
  pub within : reader.at ≤ length text
  pub leads : Leads [] text words (take reader.at text) (drop reader.at text)
  pub marked : AllMarked text [] words reader.marks.items
  pub count : length words ≡ length reader.marks.items
  pub knows : Knows reader.known (defined_after [] words)
  pub line : reader.line ≡ line (take reader.at text)
