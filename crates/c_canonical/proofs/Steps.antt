-- What the tokens of a layout show, one token after another.
use Rattle.std.proofs.Common.{ℕ, List, [], ◌∷◌}
use Rattle.c_lexer.specs.declared.token.Sign.{Sign}
use Rattle.c_layout.specs.Layout as layout
use Rattle.c_layout.specs.Layout.{Item as Part}
use Rattle.c_grammar.specs.Items.{What, Item, at, sign, undefined_name}
use Rattle.c_canonical.specs.Shown.{Shows, nothing, shown, unseen}

pub at_end : (P : List Item → Type 0) {ts rest : List Item} → Shows [] ts rest → P rest → P ts
at_end P nothing p = p

pub at_sign : (P : List Item → Type 0) (x : Sign) (parts : List Part) (ts rest : List Item) → Shows (layout.sign x ∷ parts) ts rest
    → ((line : ℕ) (mid : List Item) → Shows parts mid rest → P (sign line x ∷ mid)) → P ts
at_sign P x parts _ rest (shown {line = line} {ts = mid} h) f = f line mid h

pub at_word : (P : List Item → Type 0) (n : List ℕ) (parts : List Part) (ts rest : List Item) → Shows (layout.word n ∷ parts) ts rest
    → ((line : ℕ) (mid : List Item) → Shows parts mid rest → P (at line (undefined_name n) ∷ mid)) → P ts
at_word P n parts _ rest (shown {line = line} {ts = mid} h) f = f line mid h

pub at_number : (P : List Item → Type 0) (n : ℕ) (parts : List Part) (ts rest : List Item) → Shows (layout.number n ∷ parts) ts rest
    → ((line : ℕ) (mid : List Item) → Shows parts mid rest → P (at line (What.Number n) ∷ mid)) → P ts
at_number P n parts _ rest (shown {line = line} {ts = mid} h) f = f line mid h

pub past_gap : (w : List ℕ) (parts : List Part) (ts rest : List Item) → Shows (layout.gap w ∷ parts) ts rest → Shows parts ts rest
past_gap w parts ts rest (unseen h) = h
