-- What the tokens of a layout are to the grammar.
use Rattle.std.specs.Prelude.{ℕ, List, [], ◌∷◌}
use Rattle.c_lexer.specs.Pieces.{Kind}
use Rattle.c_layout.specs.Layout.{Item as Part, token, gap}
use Rattle.c_grammar.specs.Items.{Item, at, what_is}

-- The items before are those of the layout's tokens in their order, each at any line and with no name defined, and then the items after.
-- Gaps give no items.
pub data Shows : List Part → List Item → List Item → Type 0 where
  nothing : {ts : List Item} → Shows [] ts ts
  shown : {line : ℕ} {kind : Kind} {bytes : List ℕ} {parts : List Part} {ts rest : List Item}
      → Shows parts ts rest → Shows (token kind bytes ∷ parts) (at line (what_is [] kind bytes) ∷ ts) rest
  unseen : {bytes : List ℕ} {parts : List Part} {ts rest : List Item} → Shows parts ts rest → Shows (gap bytes ∷ parts) ts rest
