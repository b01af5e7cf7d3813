-- Tokens of the code as tokens of the grammar.
use Rattle.std.specs.Prelude.{ℕ, suc, ◌-◌, nat_lt, ◌&&◌, if◌then◌else◌, List, [], length, take, drop, Option}
use Rattle.c_lexer.specs.declared.token.Span.{Span}
use Rattle.std.specs.Option.{option_map}
use denote.Ref.{Bor}
use Rattle.c_expressions.specs.declared.token.What as declared
use Rattle.c_expressions.specs.declared.token.What.TheVariants as marked
use Rattle.c_expressions.specs.declared.token.Marked.{Marked}
use Rattle.c_grammar.specs.Items.{What, Item, at}

-- the bytes of a name
abbrev pub bytes : Bor (List ℕ) → List ℕ
bytes name = name.now

abbrev pub shown : Option (Bor (List ℕ)) → Option (List ℕ)
shown name = option_map bytes name

-- the bytes at a place of a text, or none where it has no such place
abbrev pub bytes_at : List ℕ → Span → List ℕ
bytes_at text place = if nat_lt place.start (suc place.end) && nat_lt place.end (suc (length text)) then take (place.end - place.start) (drop place.start text) else []

abbrev pub what_of : List ℕ → declared.What → What
what_of text (marked.Name name) = What.Name (bytes_at text name)
what_of text (marked.Fixed word) = What.Fixed word
what_of text marked.Keyword = What.Keyword
what_of text (marked.Number value) = What.Number value
what_of text (marked.Text format) = What.Text (bytes_at text format)
what_of text (marked.Sign sign) = What.Sign sign
what_of text (marked.Definition word) = What.Definition
what_of text marked.Repeated = What.Repeated

abbrev pub item_of : List ℕ → Marked → Item
item_of text token = at token.line (what_of text token.what)
