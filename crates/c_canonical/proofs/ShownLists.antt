-- What a layout shows, part by part, and lists in it with commas between their parts.
use Rattle.std.proofs.Common.{◌≡◌, ℕ, List, [], ◌∷◌, ◌++◌, map, sym, subst, append_assoc, append-nil}
use Rattle.std.specs.Prelude.{All}
use Rattle.c_lexer.specs.declared.token.Sign.{Sign}
use Rattle.c_layout.specs.Layout as layout
use Rattle.c_grammar.specs.Items.{Item, sign}
use Rattle.c_grammar.specs.Commas.{Commas, one, more}
use Rattle.c_grammar.specs.Simple as x
use Rattle.c_grammar.specs.Simple.{SpellsNumber}
use Rattle.c_canonical.specs.Expressions.{followed, separated, numeral}
use Rattle.c_canonical.specs.Shown.{Shows, nothing, shown, unseen}
use Rattle.c_canonical.proofs.Shown.{Halves, shows_append}
use Rattle.std.proofs.lemmas.List.Elements.{All-head, All-tail}

-- ---- parts

pub same_shows : {a b : List layout.Item} {ts rest : List Item} → a ≡ b → Shows a ts rest → Shows b ts rest
same_shows {ts = ts} {rest = rest} e h = subst (λ (items : List layout.Item). Shows items ts rest) e h

pub both : (a b : List layout.Item) {ts mid rest : List Item} → Shows a ts mid → Shows b mid rest → Shows (a ++ b) ts rest
both [] b nothing g = g
both (layout.token k bytes ∷ a) b (shown h) g = shown (both a b h g)
both (layout.gap bytes ∷ a) b (unseen h) g = unseen (both a b h g)

-- What a part shows before a sign, and what stands behind the sign.
pub record Closed (inside : List layout.Item) (x : Sign) (behind : List layout.Item) (ts rest : List Item) : Type 0 where
  pub line : ℕ
  pub after : List Item
  pub part : Shows inside ts (sign line x ∷ after)
  pub others : Shows behind after rest

pub closed : (inside : List layout.Item) (x : Sign) (behind : List layout.Item) {ts rest : List Item}
    → Shows (inside ++ layout.sign x ∷ behind) ts rest → Closed inside x behind ts rest
closed inside x behind h = by (shows_append inside (layout.sign x ∷ behind) _ _ h)
  where
    by : {ts rest : List Item} → Halves inside (layout.sign x ∷ behind) ts rest → Closed inside x behind ts rest
    by p = at_sign p.first p.second
      where
        at_sign : {ts mid rest : List Item} → Shows inside ts mid → Shows (layout.sign x ∷ behind) mid rest → Closed inside x behind ts rest
        at_sign g (shown h) = record { line = _; after = _; part = g; others = h }

-- ---- lists

-- Each of these is shown as this part of the grammar.
abbrev pub EachIs : {X : Type 0} → (X → List layout.Item) → (X → Type 0) → (List Item → List Item → X → Type 0) → Type 0
EachIs {X} item P Part = (x : X) (ts rest : List Item) → P x → Shows (item x) ts rest → Part ts rest x

pub followed_spelled : {X : Type 0} (item : X → List layout.Item) (P : X → Type 0) (Part : List Item → List Item → X → Type 0) → EachIs item P Part
    → (xs done : List X) {ts mid rest : List Item} → All P xs → Commas Part ts mid done → Shows (followed (map item xs)) mid rest → Commas Part ts rest (done ++ xs)
followed_spelled item P Part each [] done f c nothing = subst (Commas Part _ _) (sym (append-nil done)) c
followed_spelled item P Part each (x ∷ xs) done f c (shown (unseen h)) =
    let p = shows_append (item x) (followed (map item xs)) _ _ h in
    subst (Commas Part _ _) (append_assoc done (x ∷ []) xs)
    (followed_spelled item P Part each xs (done ++ x ∷ []) (All-tail P x xs f) (more c (each x _ _ (All-head P x xs f) p.first)) p.second)

pub separated_spelled : {X : Type 0} (item : X → List layout.Item) (P : X → Type 0) (Part : List Item → List Item → X → Type 0) → EachIs item P Part
    → (x : X) (xs : List X) {ts rest : List Item} → All P (x ∷ xs) → Shows (separated (map item (x ∷ xs))) ts rest → Commas Part ts rest (x ∷ xs)
separated_spelled item P Part each x xs f h =
    let p = shows_append (item x) (followed (map item xs)) _ _ h in
    followed_spelled item P Part each xs (x ∷ []) (All-tail P x xs f) (one (each x _ _ (All-head P x xs f) p.first)) p.second

pub numeral_spelled : (n : ℕ) (ts rest : List Item) → Unit {0} → Shows (numeral n) ts rest → SpellsNumber ts rest n
numeral_spelled n _ _ f (shown nothing) = x.number

pub numerals_spelled : (n : ℕ) (ns : List ℕ) {ts rest : List Item} → Shows (separated (map numeral (n ∷ ns))) ts rest → Commas SpellsNumber ts rest (n ∷ ns)
numerals_spelled n ns h = separated_spelled numeral (λ k. Unit {0}) SpellsNumber numeral_spelled n ns (λ k d l. tt) h
