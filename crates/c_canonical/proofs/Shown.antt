-- What two layouts show one after another, and what a text shows.
use Rattle.std.proofs.Common.{◌≡◌, ℕ, List, [], ◌∷◌, ◌++◌, sym, subst}
use Rattle.c_layout.specs.Layout.{Item as Part, token, gap, words}
use Rattle.c_grammar.specs.Items.{Item, Defined, items, defined_by}
use Rattle.c_canonical.specs.Shown.{Shows, nothing, shown, unseen}

-- The items of two layouts, parted.
pub record Halves (a b : List Part) (ts rest : List Item) : Type 0 where
  pub mid : List Item
  pub first : Shows a ts mid
  pub second : Shows b mid rest

pub shows_append : (a b : List Part) (ts rest : List Item) → Shows (a ++ b) ts rest → Halves a b ts rest
shows_append [] b ts rest h = record { mid = ts; first = nothing; second = h }
shows_append (token kind w ∷ a) b _ rest (shown {ts = ts} h) =
    let r = shows_append a b ts rest h in record { mid = r.mid; first = shown r.first; second = r.second }
shows_append (gap w ∷ a) b ts rest (unseen h) =
    let r = shows_append a b ts rest h in record { mid = r.mid; first = unseen r.first; second = r.second }

-- No token of a layout is a definition.
abbrev pub Plain : List Part → Type 0
Plain [] = Unit {0}
Plain (token kind w ∷ parts) = (defined_by [] kind ≡ []) × Plain parts
Plain (gap w ∷ parts) = Plain parts

pub plain_append : (a b : List Part) → Plain a → Plain b → Plain (a ++ b)
plain_append [] b p q = q
plain_append (token kind w ∷ a) b p q = (p.0, plain_append a b p.1 q)
plain_append (gap w ∷ a) b p q = plain_append a b p q

-- The items of the tokens of such a layout's text.
pub shows_words : (parts : List Part) (before : List ℕ) → Plain parts → Shows parts (items [] (words before parts)) []
shows_words [] before p = nothing
shows_words (token kind w ∷ parts) before p =
    shown (subst (λ (d : List Defined). Shows parts (items d (words (before ++ w) parts)) []) (sym p.0) (shows_words parts (before ++ w) p.1))
shows_words (gap w ∷ parts) before p = unseen (shows_words parts (before ++ w) p)
