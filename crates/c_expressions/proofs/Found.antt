-- Every expression that is spelled is read, within its levels.
use Rattle.std.proofs.Common.{◌≡◌, ℕ, zero, suc, ◌<◌, ◌≤◌, nat_eq, Bool, true, false, List, [], ◌∷◌, map, Option, Some, None, refl, sym, ap, subst, ◌∙◌, inl, inr, ◌⊎◌, arith}
use Rattle.std.proofs.lemmas.Bool.{lt-ltb, eqb-true, eqb-false}
use denote.Enum.Bare.{true_same}
use Rattle.c_lexer.specs.contracts.token.Sign.{the_type}
use Rattle.c_lexer.specs.declared.token.Sign.{Sign}
use Rattle.c_lexer.specs.declared.token.Sign.TheVariants as s
use Rattle.c_tree.specs.declared.expr.Op.{Op}
use Rattle.c_tree.specs.Expressions.{Expr}
use Rattle.c_tree.specs.Expressions as tree
use Rattle.c_grammar.specs.declared.words.FixedWord.TheVariants as w
use Rattle.c_grammar.specs.Items.{What, Item, at, sign, fixed, name_of, spelling}
use Rattle.c_grammar.specs.Levels.{Tall, over}
use Rattle.c_grammar.specs.Expressions as g
use Rattle.c_grammar.specs.Expressions.{operator, looseness, loosest, joined, SpellsCast, SpellsPrimary, SpellsUnary, SpellsExpression}
use Rattle.parse_laws.specs.declared.fault.Fault.{Fault}
use Rattle.parse_laws.specs.declared.fault.Fault.TheVariants.{Syntax}
use Rattle.parse_laws.specs.Parser.{Outcome, Got, Failed, Parser, ◌>>=◌, pure, refuse, Move, Go, commit, must, when}
use Rattle.parse_laws.specs.Operators.{chain}
use Rattle.parse_laws.proofs.Operators as ops
use Rattle.parse_laws.proofs.Finds.{Finds, Halts, parted, pure_finds, commit_finds, none_finds, must_finds, bind_finds}
use Rattle.c_expressions.specs.declared.token.Inner.{Inner}
use Rattle.c_expressions.specs.declared.token.Inner.TheVariants as i
use Rattle.c_expressions.specs.Words.{same_sign, is_sign, Head, head, by_name, inner}
use Rattle.c_expressions.specs.Parsers.{Sight, what_at, seen, is, is_cast_word, is_cast_inner, fits, close, cast_name, int_cast, pointer_cast, pointer, pointer_first, opened_by, opened, closed, may_open, index_in, indexed, behind_name, bracket_by, name_operand, element, negation, opposite, wrapped, argument_of, pointer_name, operand_by, operand, operator_of, if_loose, expressions_of, lower_in, expression_in, expression, named}
use Rattle.c_expressions.proofs.Shorter.{shrinks}
use Rattle.c_expressions.proofs.Spelled.{is_sign_only}
use Rattle.c_expressions.specs.Honest.{Honest}
use Rattle.c_expressions.specs.Ends.{closes, at_head, Ends}

-- ---- tokens that end an expression

-- no name and no `[`
abbrev pub apart : What → Bool
apart (What.Name n) = false
apart (What.Fixed word) = false
apart (What.Sign s.LeftBracket) = false
apart _ = true

-- no name goes on, and no index
abbrev pub Apart : List Item → Type 0
Apart after = at_head apart after

closes_apart : (a : What) → closes a ≡ true → apart a ≡ true
closes_apart (What.Sign s.RightParenthesis) e = refl
closes_apart (What.Sign s.RightBracket) e = refl
closes_apart (What.Sign s.Comma) e = refl
closes_apart (What.Sign s.Semicolon) e = refl
closes_apart _ e = absurd cc

pub ends_apart : (after : List Item) → Ends after → Apart after
ends_apart [] e = tt
ends_apart (t ∷ after) e = closes_apart (what_at t) e

closes_calm : (a : What) → closes a ≡ true → operator_of a ≡ None
closes_calm (What.Sign s.RightParenthesis) e = refl
closes_calm (What.Sign s.RightBracket) e = refl
closes_calm (What.Sign s.Comma) e = refl
closes_calm (What.Sign s.Semicolon) e = refl
closes_calm _ e = absurd cc

-- a sign is that sign
pub sign_self : (x : Sign) → is_sign x (What.Sign x) ≡ true
unfolding same_sign
sign_self x = true_same the_type x x refl

apart_name : (a : What) → apart a ≡ true → name_of a ≡ None
apart_name (What.Name n) e = absurd cc
apart_name (What.Fixed word) e = absurd cc
apart_name (What.Sign s.LeftBracket) e = absurd cc
apart_name _ e = refl

apart_bracket : (a : What) → apart a ≡ true → is_sign s.LeftBracket a ≡ false
unfolding same_sign
apart_bracket (What.Name n) e = absurd cc
apart_bracket (What.Fixed word) e = absurd cc
apart_bracket (What.Sign s.LeftBracket) e = absurd cc
apart_bracket _ e = refl

operator_apart : (x : Sign) (o : Op) → operator x ≡ Some o → apart (What.Sign x) ≡ true
operator_apart s.LeftBracket o e = absurd cc
operator_apart _ o e = refl

-- ---- heads

named_head : (o : Option (List ℕ)) (n : List ℕ) → o ≡ Some n → by_name o ≡ Head.Word n
named_head o n e = rw e refl

head_named : (a : What) (n : List ℕ) → name_of a ≡ Some n → head a ≡ Head.Word n
head_named (What.Name m) n e = named_head (Some m) n e
head_named (What.Fixed word) n e = named_head (name_of (What.Fixed word)) n e
head_named _ n e = absurd cc

inner_none : (a : What) (x : Inner) → inner a ≡ x → x ≡ i.Int ⊎ x ≡ i.Long → head a ≡ Head.Other
inner_none (What.Fixed w.Int) x e d = refl
inner_none (What.Fixed w.Long) x e d = refl
inner_none (What.Fixed w.IntPointer) x e (inl d) = absurd cc
inner_none (What.Fixed w.IntPointer) x e (inr d) = absurd cc
inner_none _ x e (inl d) = absurd cc
inner_none _ x e (inr d) = absurd cc

inner_pointer : (a : What) → inner a ≡ i.Pointer → head a ≡ Head.Word (spelling w.IntPointer)
inner_pointer (What.Fixed w.IntPointer) e = refl
inner_pointer _ e = absurd cc

two_answers : {Token A : Type 0} (o : Outcome Token A) (a : A) (f : Fault) (y z : List Token) → o ≡ Got a y → o ≡ Failed f z → ⊥
two_answers o a f y z d e = cc

-- ---- each derivation takes a level

mutual
  pub unary_tall : {before after : List Item} {e : Tall Expr} → SpellsUnary before after e → 1 ≤ e.levels
  unary_tall (g.not d) = omega arith
  unary_tall (g.minus d) = omega arith
  unary_tall (g.primary d) = primary_tall d

  primary_tall : {before after : List Item} {e : Tall Expr} → SpellsPrimary before after e → 1 ≤ e.levels
  primary_tall g.number = omega arith
  primary_tall (g.name d) = omega arith
  primary_tall (g.element d x) = omega arith
  primary_tall (g.parentheses x) = omega arith
  primary_tall (g.argument c d) = omega arith
  primary_tall (g.int_argument c d) = omega arith

pub expression_tall : {k : ℕ} {before after : List Item} {e : Tall Expr} → SpellsExpression k before after e → 1 ≤ e.levels
expression_tall (g.unary d) = unary_tall d
expression_tall (g.tighter d) = expression_tall d
expression_tall (g.binary d o l f) = omega arith

pub fits_true : (room levels : ℕ) → levels ≤ room → fits room levels ≡ true
fits_true room levels le = lt-ltb levels (suc room) (omega (arith, le))

module _ {Token : Type 0} (v : Sight Token) where
  abbrev pub F : {A : Type 0} → Parser Token A → List Item → List Item → A → Type 0
  F p before after a = Finds v.item p before after a

  -- the test of a sign
  pub is_at : (x : Sign) (l : ℕ) (u : Token) → v.item u ≡ sign l x → is v x u ≡ true
  is_at x l u e = rw e (sign_self x)

  -- the sign that ends what fits
  pub close_finds : {A : Type 0} (x : Sign) (fit : Bool) (p : Parser Token A) (l : ℕ) (before after : List Item) (a : A) → fit ≡ true → F p before after a → F (close v x fit p) (sign l x ∷ before) after a
  close_finds x fit p l before after a f y [] e = absurd cc
  close_finds x fit p l before after a f y (u ∷ ts) e = let z = y ts cc in (z.0, z.1, rw (is_at x l u cc, f) z.2)

  -- a sign that must come
  pub sign_finds : {A : Type 0} (x : Sign) (p : Parser Token A) (l : ℕ) (before after : List Item) (a : A) → F p before after a → F (must (is v x) p) (sign l x ∷ before) after a
  sign_finds x p l before after a y = must_finds v.item (is v x) p (sign l x) before after a (λ u e. is_at x l u e) y

  pub no_bracket : {A : Type 0} (r : ℕ) (index : Parser Token A) (after : List Item) → Apart after → Halts v.item (bracket_by v r index) after
  no_bracket r index [] c = tt
  no_bracket r index (t ∷ after) c = λ u e. rw (e, apart_bracket (what_at t) c) refl

  -- what a token does where an operand may stand, behind `(`, behind a name and behind `( intptr_t )`
  abbrev operands : ℕ → Token → Move Token (Tall Expr)
  operands r u = operand_by v r (lower_in v r) (head (seen v u))

  abbrev inners : ℕ → Parser Token (Tall Expr) → Parser Token (Tall Expr) → Token → Move Token (Tall Expr)
  inners r long next u = opened_by v r (lower_in v r) long next u (inner (seen v u))

  abbrev indices : {A : Type 0} → ℕ → (Tall Expr → A) → Token → Move Token A
  indices r make = bracket_by v r (indexed v r (lower_in v r) make)

  abbrev cast_names : Token → Move Token (Tall Expr)
  cast_names = named v (λ n. pure (argument_of n))

  abbrev ends_pointer : Parser Token (Tall Expr) → Token → Move Token (Tall Expr)
  ends_pointer next t = when (is v s.RightParenthesis t) next

  number_read : (r l n : ℕ) (after : List Item) → F (operand v r (lower_in v r)) (at l (What.Number n) ∷ after) after (over (tree.Number n) 0)
  unfolding operand
  number_read r l n after = commit_finds v.item (operands r) refuse (at l (What.Number n)) after after (over (tree.Number n) 0) (λ u e. (pure (over (tree.Number n) 0), rw e refl, pure_finds v.item after (over (tree.Number n) 0)))

  name_read : (r l : ℕ) (a : What) (n : List ℕ) (after : List Item) → name_of a ≡ Some n → Apart after → F (operand v r (lower_in v r)) (at l a ∷ after) after (over (tree.Name n) 0)
  unfolding operand name_operand
  name_read r l a n after d c =
      commit_finds v.item (operands r) refuse (at l a) after after (over (tree.Name n) 0)
      (λ u e. (name_operand v r (lower_in v r) n, rw (e, head_named a n d) refl, none_finds v.item (indices r (element n)) after (over (tree.Name n) 0) (no_bracket r (indexed v r (lower_in v r) (element n)) after c)))

  -- an index that is spelled, and what it makes, behind a name
  pub index_finds : {A : Type 0} (m : ℕ) (make : Tall Expr → A) (alone : A) (l k : ℕ) (ts after : List Item) (e : Tall Expr) → F (lower_in v (suc m) loosest) ts (sign k s.RightBracket ∷ after) e → e.levels ≤ suc m
      → F (behind_name v (suc m) (lower_in v (suc m)) make alone) (sign l s.LeftBracket ∷ ts) after (make e)
  index_finds m make alone l k ts after e x le =
      commit_finds v.item (indices (suc m) make) (pure alone) (sign l s.LeftBracket) ts after (make e)
      (λ u d. (
        indexed v (suc m) (lower_in v (suc m)) make,
        rw (is_at s.LeftBracket l u d) refl,
        bind_finds v.item (index_in v (suc m) (lower_in v (suc m))) (λ e. pure (make e)) ts after after e (make e)
            (bind_finds v.item (lower_in v (suc m) loosest) (λ e. close v s.RightBracket (fits (suc m) e.levels) (pure e)) ts (sign k s.RightBracket ∷ after) after e e x
            (close_finds s.RightBracket (fits (suc m) e.levels) (pure e) k after after e (fits_true (suc m) e.levels le) (pure_finds v.item after e)))
            (pure_finds v.item after (make e)),
      ))

  element_read : (m l lb k : ℕ) (a : What) (n : List ℕ) (ts after : List Item) (e : Tall Expr) → name_of a ≡ Some n → F (lower_in v (suc m) loosest) ts (sign k s.RightBracket ∷ after) e → e.levels ≤ suc m
      → F (operand v (suc m) (lower_in v (suc m))) (at l a ∷ sign lb s.LeftBracket ∷ ts) after (element n e)
  unfolding operand name_operand
  element_read m l lb k a n ts after e d x le =
      commit_finds v.item (operands (suc m)) refuse (at l a) (sign lb s.LeftBracket ∷ ts) after (element n e)
      (λ u q. (name_operand v (suc m) (lower_in v (suc m)) n, rw (q, head_named a n d) refl, index_finds m (element n) (over (tree.Name n) 0) lb k ts after e x le))

  signed_read : (m l : ℕ) (x : Sign) (make : Tall Expr → Tall Expr) (ts after : List Item) (e : Tall Expr) → ((r : ℕ) (lower : ℕ → Parser Token (Tall Expr)) → operand_by v (suc r) lower (head (What.Sign x)) ≡ Go (lower 0 >>= λ e. pure (make e)))
      → F (lower_in v (suc m) 0) ts after e → F (operand v (suc m) (lower_in v (suc m))) (sign l x ∷ ts) after (make e)
  unfolding operand
  signed_read m l x make ts after e go y =
      commit_finds v.item (operands (suc m)) refuse (sign l x) ts after (make e)
      (λ u q. (lower_in v (suc m) 0 >>= λ e. pure (make e), rw q (go m (lower_in v (suc m))), bind_finds v.item (lower_in v (suc m) 0) (λ e. pure (make e)) ts after after e (make e) y (pure_finds v.item after (make e))))

  -- ---- casts

  cast_name_finds : (l : ℕ) (a : What) (n : List ℕ) (after : List Item) → name_of a ≡ Some n → F (cast_name v) (at l a ∷ after) after (argument_of n)
  unfolding cast_name
  cast_name_finds l a n after d = commit_finds v.item cast_names refuse (at l a) after after (argument_of n) (λ u e. (pure (argument_of n), rw (e, d) refl, pure_finds v.item after (argument_of n)))

  pointer_cast_finds : (l : ℕ) (a : What) (n : List ℕ) (after : List Item) → name_of a ≡ Some n → F (pointer_cast v) (at l a ∷ after) after (argument_of n)
  unfolding pointer_cast
  pointer_cast_finds l a n after d = commit_finds v.item cast_names (pure pointer_name) (at l a) after after (argument_of n) (λ u e. (pure (argument_of n), rw (e, d) refl, pure_finds v.item after (argument_of n)))

  pub open_goes : (r : ℕ) → v.casts ≡ true → may_open v r ≡ true
  open_goes zero c = c
  open_goes (suc r) c = refl

  -- a cast behind its parenthesis, and what follows it
  module _ (r l k : ℕ) (long next : Parser Token (Tall Expr)) (before after : List Item) (e : Tall Expr) where
    pub long_opened : F long before after e → F (opened v r (lower_in v r) long next) (fixed l w.Long ∷ sign k s.RightParenthesis ∷ before) after e
    unfolding opened
    long_opened x =
        commit_finds v.item (inners r long next) (closed v r (expression_in v r (lower_in v r))) (fixed l w.Long) (sign k s.RightParenthesis ∷ before) after e
        (λ u q. (must (is v s.RightParenthesis) long, rw q refl, sign_finds s.RightParenthesis long k before after e x))

    pub pointer_opened : F next before after e → F (opened v r (lower_in v r) long next) (fixed l w.IntPointer ∷ sign k s.RightParenthesis ∷ before) after e
    unfolding opened pointer
    pointer_opened x =
        commit_finds v.item (inners r long next) (closed v r (expression_in v r (lower_in v r))) (fixed l w.IntPointer) (sign k s.RightParenthesis ∷ before) after e
        (λ u q. (pointer v r (lower_in v r) next u, rw q refl, commit_finds v.item (ends_pointer next) (pointer_first v r (lower_in v r) u) (sign k s.RightParenthesis) before after e (λ t d. (next, rw (is_at s.RightParenthesis k t d) refl, x))))

  -- an opening parenthesis that may come
  open_read : (r l : ℕ) (before after : List Item) (e : Tall Expr) → may_open v r ≡ true → F (opened v r (lower_in v r) (cast_name v) (pointer_cast v)) before after e → F (operand v r (lower_in v r)) (sign l s.LeftParenthesis ∷ before) after e
  unfolding operand
  open_read r l before after e o x = commit_finds v.item (operands r) refuse (sign l s.LeftParenthesis) before after e (λ u q. (opened v r (lower_in v r) (cast_name v) (pointer_cast v), rw (q, o) refl, x))

  is_cast_at : (m : ℕ) (u : Token) (a : What) → v.item u ≡ at m a → is_cast_inner (inner a) ≡ true → is_cast_word v u ≡ true
  is_cast_at m u a e c = rw e c

  module _ (honest : Honest v) where
    -- a word of a cast that stands in the text has no definition
    pub cast_free : (t1 t2 : Item) (more : List Item) (ts : List Token) → is_cast_inner (inner (what_at t2)) ≡ true → map v.item ts ≡ t1 ∷ t2 ∷ more → v.casts ≡ true
    cast_free t1 t2 more [] c e = absurd cc
    cast_free t1 t2 more (u ∷ []) c e = absurd cc
    cast_free t1 t2 more (u ∷ w ∷ ts) c e = honest.casts w (here (v.item w) t2 c cc)
      where
        here : (t t2 : Item) → is_cast_inner (inner (what_at t2)) ≡ true → t ≡ t2 → is_cast_inner (inner (what_at t)) ≡ true
        here t t2 c e = rw e c

    far_cast_free : (t1 t2 t3 t4 t5 : Item) (more : List Item) (ts : List Token) → is_cast_inner (inner (what_at t5)) ≡ true → map v.item ts ≡ t1 ∷ t2 ∷ t3 ∷ t4 ∷ t5 ∷ more → v.casts ≡ true
    far_cast_free t1 t2 t3 t4 t5 more [] c e = absurd cc
    far_cast_free t1 t2 t3 t4 t5 more (u1 ∷ []) c e = absurd cc
    far_cast_free t1 t2 t3 t4 t5 more (u1 ∷ u2 ∷ []) c e = absurd cc
    far_cast_free t1 t2 t3 t4 t5 more (u1 ∷ u2 ∷ u3 ∷ ts) c e = cast_free t4 t5 more ts c cc

    argument_read : {before : List Item} {l : ℕ} {a : What} {n : List ℕ} {after : List Item} (r : ℕ) → SpellsCast before (at l a ∷ after) → name_of a ≡ Some n → F (operand v r (lower_in v r)) before after (argument_of n)
    argument_read {l = l} {a = a} {n = n} {after = after} r (g.long {l = l1} {m = l2} {n = l3}) d = λ ts e.
        open_read r l1 (fixed l2 w.Long ∷ sign l3 s.RightParenthesis ∷ at l a ∷ after) after (argument_of n) (open_goes r (cast_free (sign l1 s.LeftParenthesis) (fixed l2 w.Long) (sign l3 s.RightParenthesis ∷ at l a ∷ after) ts refl e))
        (long_opened r l2 l3 (cast_name v) (pointer_cast v) (at l a ∷ after) after (argument_of n) (cast_name_finds l a n after d)) ts e
    argument_read {l = l} {a = a} {n = n} {after = after} r (g.int_pointer {l = l1} {m = l2} {n = l3}) d = λ ts e.
        open_read r l1 (fixed l2 w.IntPointer ∷ sign l3 s.RightParenthesis ∷ at l a ∷ after) after (argument_of n) (open_goes r (cast_free (sign l1 s.LeftParenthesis) (fixed l2 w.IntPointer) (sign l3 s.RightParenthesis ∷ at l a ∷ after) ts refl e))
        (pointer_opened r l2 l3 (cast_name v) (pointer_cast v) (at l a ∷ after) after (argument_of n) (pointer_cast_finds l a n after d)) ts e

    -- behind `( int )`
    int_cast_finds : {before : List Item} {l : ℕ} {a : What} {n : List ℕ} {after : List Item} (k : ℕ) → SpellsCast before (at l a ∷ after) → name_of a ≡ Some n → F (int_cast v) (sign k s.RightParenthesis ∷ before) after (argument_of n)
    unfolding int_cast
    int_cast_finds {l = l} {a = a} {n = n} {after = after} k c d =
        sign_finds s.RightParenthesis (must (is v s.LeftParenthesis) (must (is_cast_word v) (must (is v s.RightParenthesis) (cast_name v)))) k _ after (argument_of n) (go c)
      where
        behind : (l1 l2 l3 : ℕ) (x : What) → is_cast_inner (inner x) ≡ true
            → F (must (is v s.LeftParenthesis) (must (is_cast_word v) (must (is v s.RightParenthesis) (cast_name v)))) (sign l1 s.LeftParenthesis ∷ at l2 x ∷ sign l3 s.RightParenthesis ∷ at l a ∷ after) after (argument_of n)
        behind l1 l2 l3 x q =
            sign_finds s.LeftParenthesis (must (is_cast_word v) (must (is v s.RightParenthesis) (cast_name v))) l1 (at l2 x ∷ sign l3 s.RightParenthesis ∷ at l a ∷ after) after (argument_of n)
            (must_finds v.item (is_cast_word v) (must (is v s.RightParenthesis) (cast_name v)) (at l2 x) (sign l3 s.RightParenthesis ∷ at l a ∷ after) after (argument_of n) (λ u e. is_cast_at l2 u x e q)
            (sign_finds s.RightParenthesis (cast_name v) l3 (at l a ∷ after) after (argument_of n) (cast_name_finds l a n after d)))

        go : {before : List Item} → SpellsCast before (at l a ∷ after) → F (must (is v s.LeftParenthesis) (must (is_cast_word v) (must (is v s.RightParenthesis) (cast_name v)))) before after (argument_of n)
        go (g.long {l = l1} {m = l2} {n = l3}) = behind l1 l2 l3 (What.Fixed w.Long) refl
        go (g.int_pointer {l = l1} {m = l2} {n = l3}) = behind l1 l2 l3 (What.Fixed w.IntPointer) refl

    pub int_opened : {before : List Item} {l : ℕ} {a : What} {n : List ℕ} {after : List Item} (r m k : ℕ) (long next : Parser Token (Tall Expr)) → v.casts ≡ true → SpellsCast before (at l a ∷ after) → name_of a ≡ Some n
        → F (opened v r (lower_in v r) long next) (fixed m w.Int ∷ sign k s.RightParenthesis ∷ before) after (argument_of n)
    unfolding opened
    int_opened {before} {l} {a} {n} {after} r m k long next f c d =
        commit_finds v.item (inners r long next) (closed v r (expression_in v r (lower_in v r))) (fixed m w.Int) (sign k s.RightParenthesis ∷ before) after (argument_of n)
        (λ u q. (int_cast v, rw (q, f) refl, int_cast_finds k c d))

    pub int_free : {before : List Item} {l : ℕ} {a : What} {after : List Item} (l1 m k : ℕ) → SpellsCast before (at l a ∷ after) → (ts : List Token)
        → map v.item ts ≡ sign l1 s.LeftParenthesis ∷ fixed m w.Int ∷ sign k s.RightParenthesis ∷ before → v.casts ≡ true
    int_free {l = l} {a = a} {after = after} l1 m k (g.long {l = j1} {m = j2} {n = j3}) ts e =
        far_cast_free (sign l1 s.LeftParenthesis) (fixed m w.Int) (sign k s.RightParenthesis) (sign j1 s.LeftParenthesis) (fixed j2 w.Long) (sign j3 s.RightParenthesis ∷ at l a ∷ after) ts refl e
    int_free {l = l} {a = a} {after = after} l1 m k (g.int_pointer {l = j1} {m = j2} {n = j3}) ts e =
        far_cast_free (sign l1 s.LeftParenthesis) (fixed m w.Int) (sign k s.RightParenthesis) (sign j1 s.LeftParenthesis) (fixed j2 w.IntPointer) (sign j3 s.RightParenthesis ∷ at l a ∷ after) ts refl e

    int_argument_read : {before : List Item} {l : ℕ} {a : What} {n : List ℕ} {after : List Item} (r l1 m k : ℕ) → SpellsCast before (at l a ∷ after) → name_of a ≡ Some n
        → F (operand v r (lower_in v r)) (sign l1 s.LeftParenthesis ∷ fixed m w.Int ∷ sign k s.RightParenthesis ∷ before) after (argument_of n)
    int_argument_read {before} {l} {a} {n} {after} r l1 m k c d = λ ts e.
        let f = int_free l1 m k c ts e in
        open_read r l1 (fixed m w.Int ∷ sign k s.RightParenthesis ∷ before) after (argument_of n) (open_goes r f) (int_opened r m k (cast_name v) (pointer_cast v) f c d) ts e

  -- ---- parentheses

  closed_read : (m : ℕ) (inside : Parser Token (Tall Expr)) (ts mid : List Token) (u : Token) (e : Tall Expr) → inside ts ≡ Got e (u ∷ mid) → is v s.RightParenthesis u ≡ true → e.levels ≤ suc m → closed v (suc m) inside ts ≡ Got (wrapped e) mid
  closed_read m inside ts mid u e h q le = rw (h, q, fits_true (suc m) e.levels le) refl

  refused : (m k : ℕ) (u : Token) (z : List Token) → head (seen v u) ≡ Head.Other → chain (expressions_of v) m k (u ∷ z) ≡ Failed Syntax (u ∷ z)
  unfolding operand
  refused m k u z e = ops.operand_fails (expressions_of v) m k (u ∷ z) (u ∷ z) Syntax (rw e refl)

  -- a name that `)` follows is read alone
  alone_read : (m : ℕ) (u t : Token) (z : List Token) (n : List ℕ) → head (seen v u) ≡ Head.Word n → is v s.RightParenthesis t ≡ true → chain (expressions_of v) m loosest (u ∷ t ∷ z) ≡ Got (over (tree.Name n) 0) (t ∷ z)
  unfolding operand name_operand
  alone_read m u t z n e q =
      let b : is v s.LeftBracket t ≡ false = not_bracket (seen v t) q in
      ops.operand_reads (expressions_of v) m loosest (u ∷ t ∷ z) (t ∷ z) (over (tree.Name n) 0) (rw (e, b) refl) (λ j lt. rw (no_operator (seen v t) q) refl)
    where
      not_bracket : (a : What) → is_sign s.RightParenthesis a ≡ true → is_sign s.LeftBracket a ≡ false
      not_bracket a q = rw (is_sign_only s.RightParenthesis a q) (apart_bracket (What.Sign s.RightParenthesis) refl)

      no_operator : (a : What) → is_sign s.RightParenthesis a ≡ true → operator_of a ≡ None
      no_operator a q = rw (is_sign_only s.RightParenthesis a q) refl

  pointer_alone : (z : List Token) → Apart (map v.item z) → pointer_cast v z ≡ Got pointer_name z
  unfolding pointer_cast
  pointer_alone [] c = refl
  pointer_alone (u ∷ z) c = rw (apart_name (seen v u) c) refl

  -- Behind `(`: what is in parentheses is read. A cast that could stand there is followed by `next`, and reads the same.
  module _ (m : ℕ) (long next : Parser Token (Tall Expr)) (mid : List Token) (t : Token) (e : Tall Expr) where
    pub opened_read : (ts : List Token) → chain (expressions_of v) m loosest ts ≡ Got e (t ∷ mid) → is v s.RightParenthesis t ≡ true → e.levels ≤ suc m
        → ((u y : Token) (z : List Token) → ts ≡ u ∷ y ∷ z → inner (seen v u) ≡ i.Pointer → is v s.RightParenthesis y ≡ true → next z ≡ Got (wrapped e) mid)
        → opened v (suc m) (lower_in v (suc m)) long next ts ≡ Got (wrapped e) mid
    unfolding opened pointer
    opened_read [] h q le f = closed_read m (chain (expressions_of v) m loosest) [] mid t e h q le
    opened_read (u ∷ z) h q le f = go (inner (seen v u)) refl
      where
        none : (x : Inner) → inner (seen v u) ≡ x → (x ≡ i.Int) ⊎ (x ≡ i.Long) → ⊥
        none x d o = two_answers (chain (expressions_of v) m loosest (u ∷ z)) e Syntax (t ∷ mid) (u ∷ z) h (refused m loosest u z (inner_none (seen v u) x d o))

        pointed : (z : List Token) → chain (expressions_of v) m loosest (u ∷ z) ≡ Got e (t ∷ mid) → ((y : Token) (x : List Token) → z ≡ y ∷ x → is v s.RightParenthesis y ≡ true → next x ≡ Got (wrapped e) mid)
            → commit (ends_pointer next) (pointer_first v (suc m) (lower_in v (suc m)) u) z ≡ Got (wrapped e) mid
        pointed [] h f = closed_read m (chain (expressions_of v) m loosest) (u ∷ []) mid t e h q le
        pointed (y ∷ z) h f = here (is v s.RightParenthesis y) refl
          where
            here : (b : Bool) → is v s.RightParenthesis y ≡ b → commit (ends_pointer next) (pointer_first v (suc m) (lower_in v (suc m)) u) (y ∷ z) ≡ Got (wrapped e) mid
            here false b = rw b (closed_read m (chain (expressions_of v) m loosest) (u ∷ y ∷ z) mid t e h q le)
            here true b = rw b (f y z refl b)

        go : (x : Inner) → inner (seen v u) ≡ x → opened v (suc m) (lower_in v (suc m)) long next (u ∷ z) ≡ Got (wrapped e) mid
        go i.Int d = absurd (none i.Int d (inl refl))
        go i.Long d = absurd (none i.Long d (inr refl))
        go i.Pointer d = rw d (pointed z h (λ y x p b. f u y x (ap (λ (w : List Token). u ∷ w) p) d b))
        go i.Other d = rw d (closed_read m (chain (expressions_of v) m loosest) (u ∷ z) mid t e h q le)

  -- the name `intptr_t` in parentheses, that no name follows
  name_opened : (m : ℕ) (ts mid : List Token) (t : Token) (e : Tall Expr) → chain (expressions_of v) m loosest ts ≡ Got e (t ∷ mid) → Apart (map v.item mid) → (u y : Token) (z : List Token) → ts ≡ u ∷ y ∷ z → inner (seen v u) ≡ i.Pointer
      → is v s.RightParenthesis y ≡ true → pointer_cast v z ≡ Got (wrapped e) mid
  name_opened m ts mid t e h c u y z p d b =
      let x = same (chain (expressions_of v) m loosest ts) h (ap (chain (expressions_of v) m loosest) p ∙ alone_read m u y z (spelling w.IntPointer) (inner_pointer (seen v u) d) b) in
      pointer_alone z (subst (λ (k : List Token). Apart (map v.item k)) x.1 c) ∙ rw (x.0, x.1) refl
    where
      same : (o : Outcome Token (Tall Expr)) → o ≡ Got e (t ∷ mid) → o ≡ Got (over (tree.Name (spelling w.IntPointer)) 0) (y ∷ z) → (e ≡ over (tree.Name (spelling w.IntPointer)) 0) × (mid ≡ z)
      same o d f = (cc, cc)

  parentheses_read : (m l k : ℕ) (ts after : List Item) (e : Tall Expr) → F (chain (expressions_of v) m loosest) ts (sign k s.RightParenthesis ∷ after) e → Apart after → e.levels ≤ suc m
      → F (operand v (suc m) (lower_in v (suc m))) (sign l s.LeftParenthesis ∷ ts) after (wrapped e)
  parentheses_read m l k ts after e x c le = open_read (suc m) l ts after (wrapped e) refl inside
    where
      at_tokens : (zs rest mid : List Token) (t : Token) → rest ≡ t ∷ mid → chain (expressions_of v) m loosest zs ≡ Got e rest → v.item t ≡ sign k s.RightParenthesis → map v.item mid ≡ after
          → opened v (suc m) (lower_in v (suc m)) (cast_name v) (pointer_cast v) zs ≡ Got (wrapped e) mid
      at_tokens zs rest mid t p h q n =
          let here = h ∙ ap (λ (w : List Token). Got e w) p in
          opened_read m (cast_name v) (pointer_cast v) mid t e zs here (is_at s.RightParenthesis k t q) le (λ u y z. name_opened m zs mid t e here (subst Apart (sym n) c) u y z)

      inside : F (opened v (suc m) (lower_in v (suc m)) (cast_name v) (pointer_cast v)) ts after (wrapped e)
      inside zs d = let y = x zs d in let p = parted v.item y.0 (sign k s.RightParenthesis) after y.1 in (p.1, p.4, at_tokens zs y.0 p.1 p.0 p.2 y.2 p.3 p.4)

  -- ---- expressions

  -- where a derivation stands in the parser
  abbrev pub FoundAt : ℕ → ℕ → List Item → List Item → Tall Expr → Type 0
  FoundAt r k before after e = (ts : List Token) → map v.item ts ≡ before → (rest : List Token) × (map v.item rest ≡ after) × ops.Found (expressions_of v) r k ts rest e

  calm_ends : (k : ℕ) (rest : List Token) (after : List Item) → map v.item rest ≡ after → Ends after → ops.Calm (expressions_of v) k rest
  calm_ends k [] after e c = tt
  calm_ends k (u ∷ rest) [] e c = absurd cc
  calm_ends k (u ∷ rest) (t ∷ after) e c = λ j lt. here (v.item u) first j
    where
      first : v.item u ≡ t
      first = cc

      here : (x : Item) → x ≡ t → (j : ℕ) → if_loose j (operator_of (what_at x)) ≡ None
      here x p j = rw (p, closes_calm (what_at t) c) refl

  pub chain_finds : (r k : ℕ) (before after : List Item) (e : Tall Expr) → FoundAt r k before after e → Ends after → F (chain (expressions_of v) r k) before after e
  chain_finds r k before after e x c = λ ts d. let y = x ts d in (y.0, y.1, ops.found_ends (expressions_of v) r k ts y.0 e y.2 (calm_ends k y.0 after y.1 c))

  base_finds : (r : ℕ) (before after : List Item) (e : Tall Expr) → F (operand v r (lower_in v r)) before after e → F (chain (expressions_of v) r 0) before after e
  base_finds r before after e x = λ ts d. let y = x ts d in (y.0, y.1, ops.chain_base (expressions_of v) r ts ∙ y.2)

  one_level : (x : Sign) (o : Op) (k j : ℕ) → operator x ≡ Some o → looseness o ≡ suc k → j < k → if_loose j (operator x) ≡ None
  one_level x o k j e d lt = let b : nat_eq (looseness o) (suc j) ≡ false = differ (nat_eq (looseness o) (suc j)) refl in rw (e, b) refl
    where
      differ : (b : Bool) → nat_eq (looseness o) (suc j) ≡ b → b ≡ false
      differ false q = refl
      differ true q = let p = eqb-true (looseness o) (suc j) q in absurd (omega (arith, p, d, lt))

  its_level : (x : Sign) (o : Op) (k : ℕ) → operator x ≡ Some o → looseness o ≡ suc k → if_loose k (operator x) ≡ Some o
  its_level x o k e d = let b : nat_eq (looseness o) (suc k) ≡ true = same (nat_eq (looseness o) (suc k)) refl in rw (e, b) refl
    where
      same : (b : Bool) → nat_eq (looseness o) (suc k) ≡ b → b ≡ true
      same true q = refl
      same false q = absurd (eqb-false (looseness o) (suc k) q d)

  binary_at : (r k l : ℕ) (x : Sign) (o : Op) (a b : Tall Expr) (ts mid rest : List Token) (u : Token) (before : List Token) → before ≡ u ∷ mid → v.item u ≡ sign l x → operator x ≡ Some o → looseness o ≡ suc k → a.levels ≤ suc r
      → ops.Found (expressions_of v) (suc r) (suc k) ts before a → ops.Found (expressions_of v) r k mid rest b → ops.Found (expressions_of v) (suc r) (suc k) ts rest (joined o a b)
  binary_at r k l x o a b ts mid rest u before p q e d le f h =
      ops.found_binary (expressions_of v) r k ts mid rest a b o u (shrinks v (suc r) k) (λ j lt. rw q (one_level x o k j e d lt)) (omega (arith, le))
      (subst (λ (w : List Token). ops.Found (expressions_of v) (suc r) (suc k) ts w a) p f) (rw q (its_level x o k e d)) h

  module _ (honest : Honest v) where
    mutual
      pub primary_found : {before after : List Item} {e : Tall Expr} → SpellsPrimary before after e → Apart after → (r : ℕ) → e.levels ≤ suc r → F (operand v r (lower_in v r)) before after e
      primary_found (g.number {l = l} {value = n} {rest = after}) c r le = number_read r l n after
      primary_found (g.name {l = l} {a = a} {n = n} {rest = after} d) c r le = name_read r l a n after d c
      primary_found (g.element d x) c zero le = absurd (omega (arith, le, expression_tall x))
      primary_found (g.element {l = l} {m = lb} {k = k} {a = a} {n = n} {ts = ts} {rest = after} {e = e} d x) c (suc r) le =
          element_read r l lb k a n ts after e d (chain_finds r loosest ts (sign k s.RightBracket ∷ after) e (expression_found x refl r (omega (arith, le))) refl) (omega (arith, le))
      primary_found (g.parentheses x) c zero le = absurd (omega (arith, le, expression_tall x))
      primary_found (g.parentheses {l = l} {m = k} {ts = ts} {rest = after} {e = e} x) c (suc r) le =
          parentheses_read r l k ts after e (chain_finds r loosest ts (sign k s.RightParenthesis ∷ after) e (expression_found x refl r (omega (arith, le))) refl) c (omega (arith, le))
      primary_found (g.argument x d) c r le = argument_read honest r x d
      primary_found (g.int_argument {l = l} {m = m} {k = k} x d) c r le = int_argument_read honest r l m k x d

      pub unary_found : {before after : List Item} {e : Tall Expr} → SpellsUnary before after e → Apart after → (r : ℕ) → e.levels ≤ suc r → F (operand v r (lower_in v r)) before after e
      unary_found (g.not d) c zero le = absurd (omega (arith, le, unary_tall d))
      unary_found (g.not {l = l} {ts = ts} {rest = after} {e = e} d) c (suc r) le = signed_read r l s.Not negation ts after e (λ r lower. refl) (base_finds r ts after e (unary_found d c r (omega (arith, le))))
      unary_found (g.minus d) c zero le = absurd (omega (arith, le, unary_tall d))
      unary_found (g.minus {l = l} {ts = ts} {rest = after} {e = e} d) c (suc r) le = signed_read r l s.Minus opposite ts after e (λ r lower. refl) (base_finds r ts after e (unary_found d c r (omega (arith, le))))
      unary_found (g.primary d) c r le = primary_found d c r le

      pub expression_found : {k : ℕ} {before after : List Item} {e : Tall Expr} → SpellsExpression k before after e → Apart after → (r : ℕ) → e.levels ≤ suc r → FoundAt r k before after e
      expression_found {before = before} {after = after} {e = e} (g.unary d) c r le = base_finds r before after e (unary_found d c r le)
      expression_found (g.tighter {k = k} {e = e} d) c r le = λ ts q. let y = expression_found d c r le ts q in (y.0, y.1, ops.found_tighter (expressions_of v) r k ts y.0 e y.2)
      expression_found (g.binary x q n f) c zero le = absurd (omega (arith, le, expression_tall x))
      expression_found (g.binary {k = k} {l = l} {mid = mid} {a = a} {b = b} {t = t} {o = o} x q n f) c (suc r) le = λ ts d.
          let y = expression_found x (operator_apart t o q) (suc r) (omega (arith, le)) ts d in
          let p = parted v.item y.0 (sign l t) mid y.1 in
          let z = expression_found f c r (omega (arith, le)) p.1 p.4 in
          (z.0, z.1, binary_at r k l t o a b ts p.1 z.0 p.0 y.0 p.2 p.3 q n (omega (arith, le)) y.2 z.2)

    -- an expression of a statement
    pub expression_finds : {before after : List Item} {e : Tall Expr} → SpellsExpression loosest before after e → Ends after → (r : ℕ) → e.levels ≤ r → F (expression v r) before after e
    expression_finds x c zero le = absurd (omega (arith, le, expression_tall x))
    expression_finds {before} {after} {e} x c (suc r) le = chain_finds r loosest before after e (expression_found x (ends_apart after c) r le) c
