-- Lists with commas that are spelled are read.
use Rattle.std.proofs.Common.{◌≡◌, ℕ, Bool, true, false, List, [], ◌∷◌, ◌++◌, refl, ◌∙◌}
use denote.Enum.Bare.{true_same}
use Rattle.c_lexer.specs.declared.token.Sign.{Sign}
use Rattle.c_lexer.specs.declared.token.Sign.TheVariants as s
use Rattle.c_grammar.specs.declared.words.FixedWord.{FixedWord}
use Rattle.c_grammar.specs.contracts.words.FixedWord.{the_type}
use Rattle.c_grammar.specs.Items.{What, Item, sign, fixed}
use Rattle.c_grammar.specs.Commas.{Commas, one, more as next}
use Rattle.parse_laws.specs.Parser.{Outcome, Got, Failed, Parser, and_then, ◌>>=◌, pure, Go, and_go, must, one_more}
use Rattle.parse_laws.proofs.Sound.{Sound}
use Rattle.parse_laws.proofs.Loops.{Shrinks}
use Rattle.parse_laws.proofs.Finds.{Reaches, Halts, pure_finds, must_finds, bind_finds, turn_reaches, loop_finds}
use Rattle.c_expressions.specs.Words.{is_sign}
use Rattle.c_expressions.specs.Parsers.{Sight, what_at, is}
use Rattle.c_expressions.specs.Ends.{at_head}
use Rattle.c_expressions.proofs.Shorter.{Less, less_pure, less_when, less_then, less_shrinks}
use Rattle.c_expressions.proofs.Found.{F, is_at, sign_finds}
use Rattle.c_declarations.specs.Words.{same_word, is_word}
use Rattle.c_declarations.specs.Parsers.{is_fixed, comma, more, ended}

-- a word is that word
pub word_self : (x : FixedWord) → is_word x (What.Fixed x) ≡ true
unfolding same_word
word_self x = true_same the_type x x refl

module _ {Token : Type 0} (v : Sight Token) where
  -- the test of a word
  pub is_fixed_at : (x : FixedWord) (l : ℕ) (u : Token) → v.item u ≡ fixed l x → is_fixed v x u ≡ true
  is_fixed_at x l u e = rw e (word_self x)

  -- a word that must come
  pub word_finds : {A : Type 0} (x : FixedWord) (p : Parser Token A) (l : ℕ) (before after : List Item) (a : A) → F v p before after a → F v (must (is_fixed v x) p) (fixed l x ∷ before) after a
  word_finds x p l before after a y = must_finds v.item (is_fixed v x) p (fixed l x) before after a (λ u e. is_fixed_at x l u e) y

  -- a part, and a sign that ends it
  pub ended_finds : {A : Type 0} (p : Parser Token A) (x : Sign) (l : ℕ) (before after : List Item) (a : A) → F v p before (sign l x ∷ after) a → F v (ended v x p) before after a
  ended_finds p x l before after a y = bind_finds v.item p (λ a. must (is v x) (pure a)) before (sign l x ∷ after) after a a y (sign_finds v x (pure a) l after after a (pure_finds v.item after a))

  -- no comma comes
  abbrev pub NoComma : List Item → Type 0
  NoComma [] = Unit {0}
  NoComma (t ∷ after) = is_sign s.Comma (what_at t) ≡ false

  module _ {A B : Type 0} {item : Parser Token A} (less : Sound item Less) (add : B → A → B) where
    shrinks : (all : B) (u : Token) → Shrinks (one_more (comma v item) add all u)
    shrinks all u = less_shrinks (less_then (less_when (is v s.Comma u) less) (λ x. less_pure))

    -- one more item behind a comma
    pub more_reaches : (p : Parser Token B) (l : ℕ) (before mid after : List Item) (all : B) (x : A) → Reaches v.item p (more v item add all) before (sign l s.Comma ∷ mid) → F v item mid after x → Reaches v.item p (more v item add (add all x)) before after
    more_reaches p l before mid after all x r y =
        turn_reaches v.item p (one_more (comma v item) add) before mid after (sign l s.Comma) all (add all x) shrinks r
        (λ u e. (item >>= λ z. pure (add all z), goes u (is_at v s.Comma l u e), bind_finds v.item item (λ z. pure (add all z)) mid after after x (add all x) y (pure_finds v.item after (add all x))))
      where
        goes : (u : Token) → is v s.Comma u ≡ true → and_go (comma v item u) (λ z. pure (add all z)) ≡ Go (item >>= λ z. pure (add all z))
        goes u e = rw e refl

    -- where no comma comes, the list ends
    pub more_finds : (p : Parser Token B) (before after : List Item) (all : B) → Reaches v.item p (more v item add all) before after → NoComma after → F v p before after all
    more_finds p before after all r none = loop_finds v.item p (one_more (comma v item) add) before after all r (halts after none)
      where
        halts : (after : List Item) → NoComma after → Halts v.item (one_more (comma v item) add all) after
        halts [] n = tt
        halts (t ∷ after) n = λ u e. rw (e, n) refl

    -- A list whose first item is read by a parser of its own. An item x is read as `view x`, and `total` is what they are together. It ends before
    -- such tokens, as commas are.
    module _ {C : Type 0} (view : C → A) (R : List Item → List Item → C → Type 0) (ends : What → Bool) (comma_ends : ends (What.Sign s.Comma) ≡ true)
        (found : (before after : List Item) (x : C) → R before after x → at_head ends after → F v item before after (view x)) (total : List C → B)
        (grows : (all : List C) (x : C) → total (all ++ x ∷ []) ≡ add (total all) (view x)) where
      pub commas_reach : (p : Parser Token B) (start : List Item) (before : List Item) → ((after : List Item) (x : C) → R start after x → at_head ends after → Reaches v.item p (more v item add (total (x ∷ []))) before after)
          → {after : List Item} {all : List C} → Commas R start after all → at_head ends after → Reaches v.item p (more v item add (total all)) before after
      commas_reach p start before first (one {rest = after} {a = x} d) e = first after x d e
      commas_reach p start before first (next {l = l} {mid = mid} {rest = after} {all = all} {a = x} d i) e =
          rw (grows all x) (more_reaches p l before mid after (total all) (view x) (commas_reach p start before first d comma_ends) (found mid after x i e))

  -- a part that goes on, and a sign that ends both
  pub ended_behind : {A B : Type 0} (p : Parser Token A) (f : A → Parser Token B) (x : Sign) (l : ℕ) (before after : List Item) (b : B) → F v (p >>= f) before (sign l x ∷ after) b → F v (p >>= λ a. ended v x (f a)) before after b
  ended_behind {A} {B} p f x l before after b y = λ ts e. let z = ended_finds (p >>= f) x l before after b y ts e in (z.0, z.1, both (p ts) ∙ z.2)
    where
      both : (o : Outcome Token A) → and_then o (λ a. ended v x (f a)) ≡ and_then (and_then o f) (λ b. must (is v x) (pure b))
      both (Got a rest) = refl
      both (Failed c rest) = refl
