-- What ends expressions and lists of them, and the signs that ask whether what stands before them fits.
use Rattle.std.proofs.Common.{◌≡◌, ℕ, suc, ◌≤◌, ◌<◌, Bool, true, false, cond, List, [], ◌∷◌, ◌++◌, None, refl, arith}
use Rattle.std.proofs.lemmas.Bool.{ltb-true, ltb-false, lt-ltb}
use denote.Enum.Bare.{true_same}
use Rattle.c_lexer.specs.contracts.token.Sign.{the_type}
use Rattle.c_lexer.specs.declared.token.Sign.{Sign}
use Rattle.c_lexer.specs.declared.token.Sign.TheVariants as s
use Rattle.c_grammar.specs.Items.{What, name_of}
use Rattle.c_grammar.specs.Levels.{Tall}
use Rattle.parse_laws.specs.Parser.{Got, Parser, and_then, pure, refuse, Stop, moved, commit}
use Rattle.parse_laws.proofs.Says.{Live}
use Rattle.parse_laws.proofs.Viable.{Viable, Within}
use Rattle.parse_laws.proofs.After.{Fine, Steady, Completes, CompletesMove, drops, takes, Behind, After, same_steady}
use Rattle.parse_laws.proofs.Completes.{all_fit, steady_less, stop_completes, viable_completes, behind_after, choice_steady}
use Rattle.c_expressions.specs.Words.{same_sign, is_sign}
use Rattle.c_expressions.specs.Parsers.{Sight, seen, is, operator_of, fitting, fits, close_by, close}
use Rattle.c_expressions.proofs.Words.{Words}

-- ---- signs

sign_itself : (x : Sign) → same_sign x x ≡ true
unfolding same_sign
sign_itself x = true_same the_type x x refl

-- ---- closers

-- what ends an expression, whatever it is
abbrev pub closing_sign : What → Bool
closing_sign (What.Sign s.RightParenthesis) = true
closing_sign (What.Sign s.RightBracket) = true
closing_sign (What.Sign s.Comma) = true
closing_sign (What.Sign s.Semicolon) = true
closing_sign other = false

-- and what ends a list of them
abbrev pub list_end : What → Bool
list_end (What.Sign s.RightParenthesis) = true
list_end (What.Sign s.Semicolon) = true
list_end other = false

no_operator : (a : What) → closing_sign a ≡ true → operator_of a ≡ None
no_operator (What.Sign s.RightParenthesis) e = refl
no_operator (What.Sign s.RightBracket) e = refl
no_operator (What.Sign s.Comma) e = refl
no_operator (What.Sign s.Semicolon) e = refl
no_operator _ e = absurd cc

no_name : (a : What) → closing_sign a ≡ true → name_of a ≡ None
no_name (What.Sign s.RightParenthesis) e = refl
no_name (What.Sign s.RightBracket) e = refl
no_name (What.Sign s.Comma) e = refl
no_name (What.Sign s.Semicolon) e = refl
no_name _ e = absurd cc

no_bracket : (a : What) → closing_sign a ≡ true → is_sign s.LeftBracket a ≡ false
unfolding same_sign
no_bracket (What.Sign s.RightParenthesis) e = refl
no_bracket (What.Sign s.RightBracket) e = refl
no_bracket (What.Sign s.Comma) e = refl
no_bracket (What.Sign s.Semicolon) e = refl
no_bracket _ e = absurd cc

no_parenthesis : (a : What) → closing_sign a ≡ true → is_sign s.LeftParenthesis a ≡ false
unfolding same_sign
no_parenthesis (What.Sign s.RightParenthesis) e = refl
no_parenthesis (What.Sign s.RightBracket) e = refl
no_parenthesis (What.Sign s.Comma) e = refl
no_parenthesis (What.Sign s.Semicolon) e = refl
no_parenthesis _ e = absurd cc

no_comma : (a : What) → list_end a ≡ true → is_sign s.Comma a ≡ false
unfolding same_sign
no_comma (What.Sign s.RightParenthesis) e = refl
no_comma (What.Sign s.Semicolon) e = refl
no_comma _ e = absurd cc

list_closes : (a : What) → list_end a ≡ true → closing_sign a ≡ true
list_closes (What.Sign s.RightParenthesis) e = refl
list_closes (What.Sign s.Semicolon) e = refl
list_closes _ e = absurd cc

module _ {Token : Type 0} (v : Sight Token) where
  -- these tokens close an expression
  abbrev pub closes : Token → Bool
  closes u = closing_sign (seen v u)

  -- and these a list of expressions
  abbrev pub closes_list : Token → Bool
  closes_list u = list_end (seen v u)

  pub closer_no_operator : (u : Token) → closes u ≡ true → operator_of (seen v u) ≡ None
  closer_no_operator u e = no_operator (seen v u) e

  pub closer_no_name : (u : Token) → closes u ≡ true → name_of (seen v u) ≡ None
  closer_no_name u e = no_name (seen v u) e

  pub closer_no_bracket : (u : Token) → closes u ≡ true → is v s.LeftBracket u ≡ false
  closer_no_bracket u e = no_bracket (seen v u) e

  pub closer_no_parenthesis : (u : Token) → closes u ≡ true → is v s.LeftParenthesis u ≡ false
  closer_no_parenthesis u e = no_parenthesis (seen v u) e

  pub closer_no_comma : (u : Token) → closes_list u ≡ true → is v s.Comma u ≡ false
  closer_no_comma u e = no_comma (seen v u) e

  pub list_within : Within closes closes_list
  list_within u e = list_closes (seen v u) e

-- ---- what fits

-- a value that takes no more levels than there are
abbrev pub fit : {A : Type 0} → ℕ → Tall A → Bool
fit r a = fits r a.levels

-- an operand's value: the room is how many levels stand below its own
abbrev pub low : {A : Type 0} → ℕ → Tall A → Bool
low r a = fits (suc r) a.levels

pub fits_of : (r n : ℕ) → n ≤ r → fits r n ≡ true
fits_of r n le = lt-ltb n (suc r) (omega arith)

pub fits_le : (r n : ℕ) → fits r n ≡ true → n ≤ r
fits_le r n e = let lt = ltb-true n (suc r) e in omega (arith, lt)

pub unfit_above : (r n : ℕ) → fits r n ≡ false → r < n
unfit_above r n e = let le = ltb-false n (suc r) e in omega (arith, le)

-- ---- signs that ask

module _ {Token : Type 0} (v : Sight Token) (words : Words v) where
  pub is_itself : (x : Sign) → is v x (words.sign x) ≡ true
  is_itself x = rw (words.sign_is x) (sign_itself x)

-- `room` is how many levels may be taken in a room.
module _ {Token A : Type 0} (room : ℕ → ℕ) (mono : (s t : ℕ) → s ≤ t → room s ≤ room t) (large : (s : ℕ) → s ≤ room s) {value_fits : ℕ → A → Bool} {ends : Token → Bool} {r : ℕ} (n : ℕ) {p : ℕ → Parser Token A} where
  -- where so many levels fit it goes on, else it is too deep
  pub fitting_completes : (fits (room r) n ≡ true → Steady value_fits ends r p) → ((s : ℕ) → r ≤ s → fits (room s) n ≡ true → Live ends (λ z o. Fine (value_fits s) (p s) z o))
      → CompletesMove value_fits ends r (λ s. fitting (fits (room s) n) (p s))
  fitting_completes x live = go (fits (room r) n) refl
    where
      go : (b : Bool) → fits (room r) n ≡ b → CompletesMove value_fits ends r (λ s. fitting (fits (room s) n) (p s))
      go true e = takes p (λ s le. rw (wider s le e) refl) (record { steady = x e; live = λ s le. live s le (wider s le e) })
        where
          wider : (s : ℕ) → r ≤ s → fits (room r) n ≡ true → fits (room s) n ≡ true
          wider s le e = let l = fits_le (room r) n e in let g = mono r s le in fits_of (room s) n (omega (arith, l, g))
      go false e = drops (rw e refl) n above (p n) (rw there refl) (live n above there)
        where
          above : r ≤ n
          above = let l = unfit_above (room r) n e in let g = large r in omega (arith, l, g)

          there : fits (room n) n ≡ true
          there = fits_of (room n) n (large n)

module _ {Token : Type 0} (v : Sight Token) where
  -- a sign that asks, and a part behind it, in one step
  pub close_is : {A : Type 0} (x : Sign) (b : Bool) (p : Parser Token A) (z : List Token) → commit (close_by v x b p) refuse z ≡ close v x b p z
  close_is x b p [] = refl
  close_is {A} x b p (u ∷ z) = go (is v x u) b
    where
      go : (c d : Bool) → moved {A = A} (cond c (fitting d p) Stop) refuse u z ≡ and_then (moved (cond c (fitting d (pure u)) Stop) refuse u z) (λ w. p)
      go true true = refl
      go true false = refl
      go false d = refl

  pub close_takes : {A : Type 0} (x : Sign) (b : Bool) (p : Parser Token A) (z : List Token) (u : Token) → is v x u ≡ true → b ≡ true → close v x b p (u ∷ z) ≡ p z
  close_takes x b p z u e d = rw (e, d) refl

-- A sign that ends what fits or doesn't, and a part behind it that is read where it fits.
module _ {Token A C : Type 0} (v : Sight Token) (words : Words v) (room : ℕ → ℕ) (mono : (s t : ℕ) → s ≤ t → room s ≤ room t) (large : (s : ℕ) → s ≤ room s) {value_fits : ℕ → C → Bool} {before ends : Token → Bool} {r : ℕ} (x : Sign)
    {p : ℕ → Tall A → Parser Token C} where
  close_in : before (words.sign x) ≡ true → ((a : Tall A) → Steady value_fits ends r (λ s. p s a)) → ((s : ℕ) → r ≤ s → (a : Tall A) → fits (room s) a.levels ≡ true → Live ends (λ z o. Fine (value_fits s) (p s a) z o))
      → Behind (λ s a. fits (room s) a.levels) value_fits before ends r (λ s a. close v x (fits (room s) a.levels) (p s a))
  close_in c part live = record {
    steady = λ a. same_steady (λ s z. close_is v x (fits (room s) a.levels) (p s a) z) (choice_steady (move a));
    starts = λ s le a e. let y = live s le a e in record {
      live = record { word = words.sign x ∷ y.word; value = y.value; reads = λ z q. let d = y.reads z q in rw (close_takes v x (fits (room s) a.levels) (p s a) (y.word ++ z) (words.sign x) (is_itself v words x) e) d };
      closes = λ z q. c;
    };
    empty = λ a ts b e. absurd (taken a ts b e);
  }
    where
      move : (a : Tall A) (u : Token) → CompletesMove value_fits ends r (λ s. close_by v x (fits (room s) a.levels) (p s a) u)
      move a u = go (is v x u)
        where
          go : (b : Bool) → CompletesMove value_fits ends r (λ s. cond b (fitting (fits (room s) a.levels) (p s a)) Stop)
          go true = fitting_completes room mono large a.levels (λ e. part a) (λ s le e. live s le a e)
          go false = stop_completes

      taken : (a : Tall A) (ts : List Token) (b : C) → close v x (fits (room r) a.levels) (p r a) ts ≡ Got b ts → ⊥
      taken a [] b e = absurd cc
      taken a (u ∷ z) b e = go (is v x u) (fits (room r) a.levels) e
        where
          go : (c d : Bool) → and_then (moved (cond c (fitting d (pure u)) Stop) refuse u z) (λ w. p r a) ≡ Got b (u ∷ z) → ⊥
          go true true e = let le = steady_less (part a) z b (u ∷ z) e in absurd (omega (arith, le))
          go true false e = absurd cc
          go false d e = absurd cc

module _ {Token A C : Type 0} (v : Sight Token) (words : Words v) {value_fits : ℕ → C → Bool} {before ends : Token → Bool} {r : ℕ} (x : Sign) {p : ℕ → Tall A → Parser Token C} where
  -- of a value that may take as many levels as the room has
  pub close_behind : before (words.sign x) ≡ true → ((a : Tall A) → Steady value_fits ends r (λ s. p s a)) → ((s : ℕ) → r ≤ s → (a : Tall A) → fit s a ≡ true → Live ends (λ z o. Fine (value_fits s) (p s a) z o))
      → Behind fit value_fits before ends r (λ s a. close v x (fits s a.levels) (p s a))
  close_behind c part live = close_in v words (λ s. s) (λ s t le. le) (λ s. omega arith) x c part live

  -- of a value that may take one more
  pub close_low_behind : before (words.sign x) ≡ true → ((a : Tall A) → Steady value_fits ends r (λ s. p s a)) → ((s : ℕ) → r ≤ s → (a : Tall A) → low s a ≡ true → Live ends (λ z o. Fine (value_fits s) (p s a) z o))
      → Behind low value_fits before ends r (λ s a. close v x (fits (suc s) a.levels) (p s a))
  close_low_behind c part live = close_in v words (λ s. suc s) (λ s t le. omega (arith, le)) (λ s. omega arith) x c part live

fine : {Token A : Type 0} {ends : Token → Bool} {r : ℕ} {p : ℕ → Parser Token A} → Viable ends r p → Completes all_fit ends r p
fine x = viable_completes (λ s le z a rest e. refl) x

module _ {Token A B : Type 0} (v : Sight Token) (words : Words v) {before ends : Token → Bool} {r : ℕ} (x : Sign) {p : ℕ → Tall A → Parser Token B} (c : before (words.sign x) ≡ true) (h : (a : Tall A) → Viable ends r (λ s. p s a)) where
  -- the same, where what is read behind the sign always fits
  pub close_after : After fit before ends r (λ s a. close v x (fits s a.levels) (p s a))
  close_after = behind_after (close_behind v words x c (λ a. (fine (h a)).steady) (λ s le a e. (fine (h a)).live s le))

  pub close_low_after : After low before ends r (λ s a. close v x (fits (suc s) a.levels) (p s a))
  close_low_after = behind_after (close_low_behind v words x c (λ a. (fine (h a)).steady) (λ s le a e. (fine (h a)).live s le))
