-- What is spelled takes some tokens, and doesn't depend on those behind them.
use Rattle.std.specs.Prelude.{◌≡◌, Bool, true, false, ◌&&◌, List, [], ◌∷◌, ◌++◌}
use Rattle.c_grammar.specs.Items.{What, Item, at}

-- a token that is no definition
abbrev pub is_plain : Item → Bool
is_plain (at l What.Definition) = false
is_plain (at l What.Repeated) = false
is_plain (at l other) = true

abbrev pub all_plain : List Item → Bool
all_plain [] = true
all_plain (t ∷ ts) = is_plain t && all_plain ts

-- The tokens `before` are some that are no definitions, and then those of `after`; and behind the former any tokens may stand.
pub record Takes (Spells : List Item → List Item → Type 0) (before after : List Item) : Type 0 where
  pub front : List Item
  pub plain : all_plain front ≡ true
  pub parts : before ≡ front ++ after
  pub again : (z : List Item) → Spells (front ++ z) z
