-- What is known of the items of tokens, those of a text and others.
use Rattle.std.specs.Prelude.{◌≡◌, ◌≤◌, List, [], ◌∷◌}
use Rattle.c_lexer.specs.Words.{largest}
use Rattle.c_layout.specs.Layout.{IsName, IsQuotable}
use Rattle.c_grammar.specs.Items.{What, Item, at, undefined_name}

-- A name is no other word. Where `Bounded` holds it has at most 63 characters, a number is small enough, and a text may stand in quotes.
abbrev pub Genuine : Type 0 → What → Type 0
Genuine Bounded (What.Name name) = (undefined_name name ≡ What.Name name) × (Bounded → IsName name)
Genuine Bounded (What.Number value) = Bounded → value ≤ largest
Genuine Bounded (What.Text format) = Bounded → IsQuotable format
Genuine Bounded other = Unit {0}

-- Each of these is.
abbrev pub Seen : Type 0 → List Item → Type 0
Seen Bounded [] = Unit {0}
Seen Bounded (at line what ∷ ts) = Genuine Bounded what × Seen Bounded ts
