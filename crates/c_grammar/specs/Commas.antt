-- Lists of parts with commas between them.
use Rattle.std.specs.Prelude.{ℕ, List, [], ◌∷◌, ◌++◌}
use Rattle.c_lexer.specs.declared.token.Sign.TheVariants as s
use Rattle.c_grammar.specs.Items.{Item, sign}

-- One part, or several with a comma between each two. `Part before after value` says that the tokens `before` are a part
-- and then the tokens `after`; the values come in the order of the text.
pub data Commas {A : Type 0} (Part : List Item → List Item → A → Type 0) : List Item → List Item → List A → Type 0 where
  one : {ts rest : List Item} {a : A} → Part ts rest a → Commas Part ts rest (a ∷ [])
  more : {l : ℕ} {ts mid rest : List Item} {all : List A} {a : A}
      → Commas Part ts (sign l s.Comma ∷ mid) all → Part mid rest a → Commas Part ts rest (all ++ a ∷ [])
