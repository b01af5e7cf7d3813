-- Single tokens, from what is known of them.
use Rattle.std.proofs.Common.{rules, ◌≡◌, ℕ, Bool, true, false, cond, List, Option, Some, None, refl, sym, ap, ◌∙◌}
use denote.Enum.Bare.{same_true}
use Rattle.c_lexer.specs.declared.token.Sign.{Sign}
use Rattle.c_grammar.specs.declared.words.FixedWord.{FixedWord}
use Rattle.c_grammar.specs.contracts.words.FixedWord.{the_type}
use Rattle.c_grammar.specs.declared.words.FixedWord.TheVariants as w
use Rattle.c_grammar.specs.Items.{What, Item, at, sign, fixed, name_of, cell_name}
use Rattle.c_expressions.specs.Parsers.{Sight, what_at, seen, is}
use Rattle.c_expressions.proofs.Spelled.{is_sign_only}
use Rattle.c_declarations.specs.Words.{same_word, is_word, number_of, if_held, held, line_in}
use Rattle.c_declarations.specs.Parsers.{line, is_fixed}

pub word_is : (x y : FixedWord) → same_word x y ≡ true → x ≡ y
unfolding same_word
word_is x y e = same_true the_type (search rules) x y e

is_word_only : (x : FixedWord) (a : What) → is_word x a ≡ true → a ≡ What.Fixed x
is_word_only x (What.Fixed y) e = ap (λ (z : FixedWord). What.Fixed z) (sym (word_is x y e))
is_word_only x _ e = absurd cc

number_only : (a : What) (k : ℕ) → number_of a ≡ Some k → a ≡ What.Number k
number_only (What.Number m) k e = cc
number_only _ k e = absurd cc

if_held_only : (holds : ℕ → Bool) (m : Option ℕ) (k : ℕ) → if_held holds m ≡ Some k → m ≡ Some k
if_held_only holds None k e = absurd cc
if_held_only holds (Some m) k e = go (holds m) e
  where
    go : (b : Bool) → cond b (Some m) None ≡ Some k → Some m ≡ Some k
    go true e = e
    go false e = absurd cc

-- a name for a scalar, and one for a function, is a name
pub cell_name_only : (a : What) (n : List ℕ) → cell_name a ≡ Some n → name_of a ≡ Some n
cell_name_only (What.Fixed w.Capacities) n e = absurd cc
cell_name_only _ n e = e

module _ {Token : Type 0} (v : Sight Token) (u : Token) where
  -- every token is an item on its line
  pub item_at : v.item u ≡ at (line v u) (seen v u)
  item_at = go (v.item u)
    where
      go : (t : Item) → t ≡ at (line_in t) (what_at t)
      go (at l a) = refl

  is_at : (a : What) → seen v u ≡ a → v.item u ≡ at (line v u) a
  is_at a e = item_at ∙ ap (λ (b : What). at (line v u) b) e

  pub sign_at : (x : Sign) → is v x u ≡ true → v.item u ≡ sign (line v u) x
  sign_at x e = is_at (What.Sign x) (is_sign_only x (seen v u) e)

  pub fixed_at : (x : FixedWord) → is_fixed v x u ≡ true → v.item u ≡ fixed (line v u) x
  fixed_at x e = is_at (What.Fixed x) (is_word_only x (seen v u) e)

  pub number_at : (k : ℕ) → number_of (seen v u) ≡ Some k → v.item u ≡ at (line v u) (What.Number k)
  number_at k e = is_at (What.Number k) (number_only (seen v u) k e)

  pub held_at : (holds : ℕ → Bool) (k : ℕ) → held holds (seen v u) ≡ Some k → v.item u ≡ at (line v u) (What.Number k)
  held_at holds k e = number_at k (if_held_only holds (number_of (seen v u)) k e)

  pub seen_at : (a : What) → seen v u ≡ a → v.item u ≡ at (line v u) a
  seen_at a e = is_at a e
