-- What is known of the parts of a list that seen items spell, and of the items after it.
use Rattle.std.proofs.Common.{ℕ, ◌≤◌, List, [], ◌∷◌, length, arith, length-append}
use Rattle.std.specs.Prelude.{All}
use Rattle.std.proofs.lemmas.List.Elements.{All-cons, All-append}
use Rattle.c_lexer.specs.Words.{largest}
use Rattle.c_grammar.specs.Items.{Item}
use Rattle.c_grammar.specs.Commas as c
use Rattle.c_grammar.specs.Commas.{Commas}
use Rattle.c_grammar.specs.Simple as x
use Rattle.c_grammar.specs.Simple.{SpellsNumber}
use Rattle.c_canonical.proofs.Seen.{Seen}

-- ---- lists

pub all_nil : {X : Type 0} (P : X → Type 0) → All P []
all_nil P k d l = absurd (omega (arith, l))

pub all_one : {X : Type 0} (P : X → Type 0) (x : X) → P x → All P (x ∷ [])
all_one P x f = All-cons P x [] f (all_nil P)

-- What is known of an item of a list, and of the items of the text after it.
abbrev pub Knows : Type 0 → (X : Type 0) → (X → Type 0) → (List Item → List Item → X → Type 0) → Type 0
Knows Bounded X P Part = (ts rest : List Item) (x : X) → Part ts rest x → Seen Bounded ts → P x × Seen Bounded rest

pub commas_known : {Bounded : Type 0} {X : Type 0} (P : X → Type 0) (Part : List Item → List Item → X → Type 0) → Knows Bounded X P Part → {ts rest : List Item} {all : List X}
    → Commas Part ts rest all → Seen Bounded ts → All P all × Seen Bounded rest
commas_known P Part each (c.one {a = a} h) s = let x = each _ _ a h s in (all_one P a x.0, x.1)
commas_known P Part each (c.more {all = all} {a = a} hs h) s =
    let xs = commas_known P Part each hs s in
    let x = each _ _ a h xs.1.1 in
    (All-append P all (a ∷ []) xs.0 (all_one P a x.0), x.1)

pub some_parts : {X : Type 0} {Part : List Item → List Item → X → Type 0} {ts rest : List Item} {all : List X} → Commas Part ts rest all → 1 ≤ length all
some_parts (c.one h) = omega arith
some_parts (c.more {all = all} {a = a} hs h) = let n = length-append all (a ∷ []) in omega (arith, n)

-- ---- numbers

-- Of a number.
abbrev pub IsSmallWhere : Type 0 → ℕ → Type 0
IsSmallWhere Bounded n = Bounded → n ≤ largest

pub number_known : (Bounded : Type 0) → Knows Bounded ℕ (IsSmallWhere Bounded) SpellsNumber
number_known Bounded _ _ _ x.number s = s
