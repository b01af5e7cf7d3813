-- Marked tokens and their words are seen alike, up to a definition.
use Rattle.std.proofs.Common.{◌≡◌, ℕ, suc, nat_lt, Bool, true, false, cond, ◌||◌, List, [], ◌∷◌, length, Option, Some, None, refl, ap, subst, arith}
use Rattle.std.specs.Prelude.{nat_le, bytes_eq}
use Rattle.std.proofs.lemmas.Bool.{le-leb, leb-true}
use Rattle.c_lexer.specs.Pieces.{Kind}
use Rattle.c_lexer.specs.Words.{largest}
use Rattle.c_lexer.specs.Tokens.{Word}
use Rattle.c_grammar.specs.declared.words.FixedWord.TheVariants as w
use Rattle.c_grammar.specs.Items.{What, Item, at, Defined, definition_of, what_is, named, first_or_repeated, defined_by}
use Rattle.parse_laws.proofs.Alike.{Ways, Along, ended, token, barred}
use Rattle.c_expressions.specs.declared.token.Marked.{Marked}
use Rattle.c_expressions.specs.Marked.{item_of}
use Rattle.c_expressions.specs.Parsers.{Sight}
use Rattle.c_expressions.proofs.Same as same
use Rattle.c_expressions.proofs.Same.{Like, clear, bars}
use Rattle.c_programs.specs.Lexed.{free, word_sight}
use Rattle.c_programs.specs.Gives.{sight_of}
use Rattle.c_tokens.specs.Marks.{Marks, AllMarked, is_small, AreSmall}
use Rattle.c_tokens.proofs.Tables.{shaped_undefined}
use Rattle.c_alike.proofs.Free.{left_by}

-- defined numbers are at most the largest one
abbrev pub AreLow : List Defined → Type 0
AreLow [] = Unit {0}
AreLow (x ∷ d) = (nat_le x.value largest ≡ true) × AreLow d

pub found_low : (d : List Defined) (name : List ℕ) (x : Defined) → AreLow d → definition_of d name ≡ Some x → nat_le x.value largest ≡ true
found_low [] name x low e = absurd cc
found_low (y ∷ d) name x low e = go (bytes_eq y.name name) e (found_low d name x low.1)
  where
    go : (b : Bool) → cond b (Some y) (definition_of d name) ≡ Some x → (definition_of d name ≡ Some x → nat_le x.value largest ≡ true) → nat_le x.value largest ≡ true
    go true e h = let same : y ≡ x = cc in subst (λ (z : Defined). nat_le z.value largest ≡ true) same low.0
    go false e h = h e

small_clear : (n : ℕ) → nat_le n largest ≡ true → nat_lt n 2147483648 ≡ true
small_clear n e = le-leb (suc n) 2147483648 (omega (arith, leb-true n largest e))

clear_small : (n : ℕ) → nat_lt n 2147483648 ≡ true → nat_le n largest ≡ true
clear_small n e = le-leb n largest (omega (arith, leb-true (suc n) 2147483648 e))

any_of : (a b c d e : Bool) → (((a || b) || c) || d) || e ≡ a || (b || (c || (d || e)))
any_of true b c d e = refl
any_of false true c d e = refl
any_of false false true d e = refl
any_of false false false d e = refl

-- no item is both
pub clear_bars : (t : Item) → clear t ≡ true → bars t ≡ true → ⊥
clear_bars (at l What.Definition) c b = absurd cc
clear_bars (at l What.Repeated) c b = absurd cc
clear_bars (at l _) c b = absurd cc

-- words of a text and tokens that stand for them, with small numbers
abbrev pub Later : List ℕ → List Defined → List Marked → List Word → Type 0
Later text d x y = AllMarked text d y x × AreSmall y

pub as_long : (text : List ℕ) (d : List Defined) (x : List Marked) (y : List Word) → Later text d x y → length x ≡ length y
as_long text d [] [] h = refl
as_long text d [] (t ∷ y) h = absurd h.0
as_long text d (u ∷ x) [] h = absurd h.0
as_long text d (u ∷ x) (t ∷ y) h = ap suc (as_long text (defined_by d t.kind) x y (h.0.1, h.1.1))

module _ (text : List ℕ) (d : List Defined) where
  -- how the code sees its tokens, and the theory its words
  abbrev pub code : Sight Marked
  code = sight_of text (left_by d)

  abbrev pub theory : Sight Word
  theory = word_sight d

  pub like : Like code theory
  like = record { casts = refl; void = refl; null = refl; ready_mutexes = refl; ready_conditions = refl; threads = refl; declarations = any_of (free d w.Int) (free d w.Void) (free d w.Thread) (free d w.Mutex) (free d w.Condition) }

  abbrev pub W : Ways Marked Word Item
  W = same.ways code theory like (Later text d) (as_long text d)

  pub clear_named : (l : ℕ) (bytes : List ℕ) (o : Option Defined) → ((x : Defined) → o ≡ Some x → nat_le x.value largest ≡ true) → clear (at l (named bytes o)) ≡ true
  clear_named l bytes None low = shaped_undefined (λ a. clear (at l a) ≡ true) refl (λ x. refl) bytes refl
  clear_named l bytes (Some x) low = small_clear x.value (low x refl)

  bars_definition : (l : ℕ) (o : Option Defined) → bars (at l (first_or_repeated o)) ≡ true
  bars_definition l None = refl
  bars_definition l (Some x) = refl

  unclear_definition : (l : ℕ) (o : Option Defined) → clear (at l (first_or_repeated o)) ≡ true → ⊥
  unclear_definition l None e = absurd cc
  unclear_definition l (Some x) e = absurd cc

  module _ (low : AreLow d) where
    pub to_along : (x : List Marked) (y : List Word) → Later text d x y → Along W x y
    to_along [] [] h = ended
    to_along [] (t ∷ y) h = absurd h.0
    to_along (u ∷ x) [] h = absurd h.0
    to_along (u ∷ x) (t ∷ y) h = go t.kind t.bytes t.line h.0.0 h.1.0 h.0.1 h.1.1 (λ k. to_along x y k)
      where
        go : (kind : Kind) (bytes : List ℕ) (l : ℕ) → Marks text d (record { kind = kind; bytes = bytes; line = l }) u → is_small kind ≡ true → AllMarked text (defined_by d kind) y x → AreSmall y → (Later text d x y → Along W x y)
            → Along W (u ∷ x) (record { kind = kind; bytes = bytes; line = l } ∷ y)
        go Kind.name bytes l m s a b next = token m.seen (clear_named l bytes (definition_of d bytes) (λ z e. found_low d bytes z low e)) (next (a, b))
        go (Kind.number n) bytes l m s a b next = token m.seen (small_clear n s) (next (a, b))
        go Kind.text bytes l m s a b next = token m.seen refl (next (a, b))
        go (Kind.sign z) bytes l m s a b next = token m.seen refl (next (a, b))
        go (Kind.define name n) bytes l m s a b next = barred m.seen (bars_definition l (definition_of d name)) ((m, a), (s, b))

  pub from_along : {x : List Marked} {y : List Word} → Along W x y → Later text d x y
  from_along ended = (tt, tt)
  from_along (token {u = u} {t = t} {x = x} {y = y} e c h) = go t.kind t.bytes t.line e c (from_along h)
    where
      go : (kind : Kind) (bytes : List ℕ) (l : ℕ) → item_of text u ≡ at l (what_is d kind bytes) → clear (at l (what_is d kind bytes)) ≡ true → Later text d x y → Later text d (u ∷ x) (record { kind = kind; bytes = bytes; line = l } ∷ y)
      go Kind.name bytes l e c h = ((record { seen = e; tells = tt }, h.0), (refl, h.1))
      go (Kind.number n) bytes l e c h = ((record { seen = e; tells = tt }, h.0), (clear_small n c, h.1))
      go Kind.text bytes l e c h = ((record { seen = e; tells = tt }, h.0), (refl, h.1))
      go (Kind.sign z) bytes l e c h = ((record { seen = e; tells = tt }, h.0), (refl, h.1))
      go (Kind.define name n) bytes l e c h = absurd (unclear_definition l (definition_of d name) c)
  from_along (barred e b h) = h
