-- Tokens of two types that are seen alike are read alike, up to a definition.
use Rattle.std.proofs.Common.{◌≡◌, ℕ, zero, suc, ◌-◌, nat_lt, Bool, true, false, cond, ◌||◌, if◌then◌else◌, List, ◌∷◌, length, Option, Some, None, refl, sym, ap, subst}
use Rattle.std.specs.Option.{is_some}
use Rattle.c_lexer.specs.declared.token.Sign.{Sign}
use Rattle.c_lexer.specs.declared.token.Sign.TheVariants as s
use Rattle.c_tree.specs.Expressions.{Expr, Exprs, Place}
use Rattle.c_tree.specs.Expressions as tree
use Rattle.c_grammar.specs.declared.words.FixedWord.TheVariants as w
use Rattle.c_grammar.specs.Items.{What, Item, at, name_of, callee}
use Rattle.c_grammar.specs.Levels.{Tall, tall, over}
use Rattle.c_grammar.specs.Expressions.{loosest, joined}
use Rattle.parse_laws.specs.Parser.{Parser, and_then, ◌>>=◌, pure, refuse, Move, Stop, moved, when, must, deeper}
use Rattle.parse_laws.specs.Operators.{chain}
use Rattle.parse_laws.proofs.Alike.{Ways, Along, ended, token, barred, Both, Alike, AlikeMove, AlikeMoves, AlikeTest, Stays, alike_moves, pure_alike, refuse_alike, commit_alike, choice_alike, option_alike, when_alike, test_alike, must_alike, bind_alike, deeper_alike, level_alike, fault_alike, loop_alike, chain_alike}
use Rattle.c_expressions.specs.declared.token.Inner.{Inner}
use Rattle.c_expressions.specs.declared.token.Inner.TheVariants as i
use Rattle.c_expressions.specs.Words.{is_sign, Head, head, inner}
use Rattle.c_expressions.specs.Parsers.{Sight, what_at, seen, is, go_named, named, fits, fitting, close, close_by, begins, begins_head, goes_on, operator_of, operator_at, if_loose, cast_name, int_cast, is_cast_word, is_cast_inner, pointer_cast, pointer_name, pointer, pointer_first, opened_by, opened, closed, expression_in, may_open, index_in, indexed, behind_name, bracket_by, name_operand, element, negation, opposite, signed, wrapped, argument_of, operand_by, operand, expressions_of, lower_in, expression, member, scalar, place_behind, place, address, one_expression, with_expression, added, comma_by, more_expressions, expressions, as_arguments, no_arguments, some_arguments, arguments, call_of, call_behind, call, unary, cast_by, cast_unary, is_void, void_cast, argument_by, argument}

-- a definition, after which words may be seen otherwise
abbrev pub bars : Item → Bool
bars (at l What.Definition) = true
bars (at l What.Repeated) = true
bars _ = false

-- none, and no number that is too large
abbrev pub clear : Item → Bool
clear (at l What.Definition) = false
clear (at l What.Repeated) = false
clear (at l (What.Number value)) = nat_lt value 2147483648
clear _ = true

-- the same words have no definition
pub record Like {One Two : Type 0} (v : Sight One) (z : Sight Two) : Type 0 where
  pub casts : v.casts ≡ z.casts
  pub void : v.void ≡ z.void
  pub null : v.null ≡ z.null
  pub ready_mutexes : v.ready_mutexes ≡ z.ready_mutexes
  pub ready_conditions : v.ready_conditions ≡ z.ready_conditions
  pub threads : v.threads ≡ z.threads
  pub declarations : v.declarations ≡ z.declarations

-- a fact of an item that bars the way, from the two that do
pub by_bars : (P : What → Type 0) → P What.Definition → P What.Repeated → (t : Item) → bars t ≡ true → P (what_at t)
by_bars P d r (at l What.Definition) b = d
by_bars P d r (at l What.Repeated) b = r
by_bars P d r (at l _) b = absurd cc

module _ {One Two : Type 0} (v : Sight One) (z : Sight Two) (like : Like v z) (Later : List One → List Two → Type 0) (long : (x : List One) (y : List Two) → Later x y → length x ≡ length y) where
  abbrev pub ways : Ways One Two Item
  ways = record { one = v.item; two = z.item; clear = clear; bars = bars; Later = Later; long = long }

  abbrev pub S : {A : Type 0} → Parser One A → Parser Two A → Type 0
  S p q = Alike ways p q

  abbrev pub SM : {A : Type 0} → Move One A → Move Two A → Type 0
  SM k m = AlikeMove ways k m

  abbrev pub SMs : {A : Type 0} → (One → Move One A) → (Two → Move Two A) → Type 0
  SMs k m = AlikeMoves ways k m

  -- moves by what a token is
  pub by_what : {A : Type 0} (k : What → Move One A) (m : What → Move Two A) → ((a : What) → SM (k a) (m a)) → Stays ways (m What.Definition) → Stays ways (m What.Repeated) → SMs (λ u. k (seen v u)) (λ t. m (seen z t))
  by_what k m h d r = alike_moves ways (λ u t e. subst (λ (x : Item). SM (k (what_at x)) (m (seen z t))) (sym e) (h (seen z t))) (λ t b. by_bars (λ a. Stays ways (m a)) d r (z.item t) b)

  pub test_by_what : (f : What → Bool) → f What.Definition ≡ false → f What.Repeated ≡ false → AlikeTest ways (λ u. f (seen v u)) (λ t. f (seen z t))
  test_by_what f d r = record { same = λ u t e. ap (λ (x : Item). f (what_at x)) e; passes = λ t b. by_bars (λ a. f a ≡ false) d r (z.item t) b }

  pub is_same : (x : Sign) → AlikeTest ways (is v x) (is z x)
  is_same x = test_by_what (is_sign x) refl refl

  module _ {A : Type 0} where
    pub sign_same : (x : Sign) (p : Parser One A) (q : Parser Two A) → S p q → S (must (is v x) p) (must (is z x) q)
    sign_same x p q h = must_alike ways (is v x) (is z x) p q (is_same x) h

    pub fitting_same : (b : Bool) (p : Parser One A) (q : Parser Two A) → S p q → SM (fitting b p) (fitting b q)
    fitting_same true p q h = h
    fitting_same false p q h = tt

    pub go_named_same : (p : List ℕ → Parser One A) (q : List ℕ → Parser Two A) → ((n : List ℕ) → S (p n) (q n)) → (o : Option (List ℕ)) → SM (go_named p o) (go_named q o)
    go_named_same p q h None = tt
    go_named_same p q h (Some n) = h n

    pub named_same : (p : List ℕ → Parser One A) (q : List ℕ → Parser Two A) → ((n : List ℕ) → S (p n) (q n)) → SMs (named v p) (named z q)
    named_same p q h = by_what (λ a. go_named p (name_of a)) (λ a. go_named q (name_of a)) (λ a. go_named_same p q h (name_of a)) tt tt

    -- a sign, where something fits or not
    pub closes_same : (x : Sign) (b : Bool) (p : Parser One A) (q : Parser Two A) → S p q → SMs (close_by v x b p) (close_by z x b q)
    closes_same x b p q h = by_what (λ a. cond (is_sign x a) (fitting b p) Stop) (λ a. cond (is_sign x a) (fitting b q) Stop) (λ a. go (is_sign x a)) tt tt
      where
        go : (c : Bool) → SM (cond c (fitting b p) Stop) (cond c (fitting b q) Stop)
        go true = fitting_same b p q h
        go false = tt

  -- a sign that closes what fits
  pub close_same : {A : Type 0} (x : Sign) (b : Bool) (p : Parser One A) (q : Parser Two A) → S p q → S (close v x b p) (close z x b q)
  close_same x b p q h = λ m n d. go d
    where
      taken : (c e f : Bool) (u : One) (t : Two) (m : List One) (n : List Two) → c ≡ e → Along ways (u ∷ m) (t ∷ n) → Along ways m n
          → Both ways (and_then (moved (cond c (fitting f (pure u)) Stop) refuse u m) (λ _. p)) (and_then (moved (cond e (fitting f (pure t)) Stop) refuse t n) (λ _. q))
      taken true true true u t m n e a d = h m n d
      taken true true false u t m n e a d = (refl, a)
      taken false false f u t m n e a d = (refl, a)
      taken true false f u t m n e a d = absurd cc
      taken false true f u t m n e a d = absurd cc

      stopped : (c e : Bool) (u : One) (t : Two) (m : List One) (n : List Two) → c ≡ e → e ≡ false → Along ways (u ∷ m) (t ∷ n)
          → Both ways (and_then (moved (cond c (fitting b (pure u)) Stop) refuse u m) (λ _. p)) (and_then (moved (cond e (fitting b (pure t)) Stop) refuse t n) (λ _. q))
      stopped false false u t m n e g a = (refl, a)
      stopped true true u t m n e g a = absurd cc
      stopped true false u t m n e g a = absurd cc
      stopped false true u t m n e g a = absurd cc

      go : {m : List One} {n : List Two} → Along ways m n → Both ways (close v x b p m) (close z x b q n)
      go ended = (refl, ended)
      go (token {u = u} {t = t} {x = m} {y = n} e c d) = taken (is v x u) (is z x t) b u t m n ((is_same x).same u t e) (token e c d) d
      go (barred {u = u} {t = t} {x = m} {y = n} e c d) = stopped (is v x u) (is z x t) u t m n ((is_same x).same u t e) ((is_same x).passes t c) (barred e c d)

  -- ---- casts

  cast_name_same : S (cast_name v) (cast_name z)
  unfolding cast_name
  cast_name_same = choice_alike ways (named v (λ n. pure (argument_of n))) (named z (λ n. pure (argument_of n))) (named_same (λ n. pure (argument_of n)) (λ n. pure (argument_of n)) (λ n. pure_alike ways (argument_of n)))

  cast_word_same : AlikeTest ways (is_cast_word v) (is_cast_word z)
  cast_word_same = test_by_what (λ a. is_cast_inner (inner a)) refl refl

  int_cast_same : S (int_cast v) (int_cast z)
  unfolding int_cast
  int_cast_same =
      sign_same s.RightParenthesis _ _ (sign_same s.LeftParenthesis _ _ (must_alike ways (is_cast_word v) (is_cast_word z) _ _ cast_word_same (sign_same s.RightParenthesis _ _ cast_name_same)))

  pointer_cast_same : S (pointer_cast v) (pointer_cast z)
  unfolding pointer_cast
  pointer_cast_same = option_alike ways (named v (λ n. pure (argument_of n))) (named z (λ n. pure (argument_of n))) pointer_name (named_same (λ n. pure (argument_of n)) (λ n. pure (argument_of n)) (λ n. pure_alike ways (argument_of n)))

  -- ---- parentheses

  begins_same : (u : One) (t : Two) → v.item u ≡ z.item t → begins v u ≡ begins z t
  begins_same u t e = ap (λ (x : Item). begins_head (head (what_at x))) e

  module _ (r : ℕ) (lower : ℕ → Parser One (Tall Expr)) (under : ℕ → Parser Two (Tall Expr)) (h : (k : ℕ) → S (lower k) (under k)) where
    expression_in_same : S (expression_in v r lower) (expression_in z r under)
    expression_in_same = level_alike ways (begins v) (begins z) (λ _. lower loosest) (λ _. under loosest) r begins_same (λ m e. h loosest)

    closed_same : (inside : Parser One (Tall Expr)) (within : Parser Two (Tall Expr)) → S inside within → S (closed v r inside) (closed z r within)
    closed_same inside within d =
        bind_alike ways inside within (λ e. close v s.RightParenthesis (fits r e.levels) (pure (wrapped e))) (λ e. close z s.RightParenthesis (fits r e.levels) (pure (wrapped e))) d
        (λ e. close_same s.RightParenthesis (fits r e.levels) (pure (wrapped e)) (pure (wrapped e)) (pure_alike ways (wrapped e)))

    -- the token that was read before is put back
    pointer_first_same : (u : One) (t : Two) → v.item u ≡ z.item t → clear (z.item t) ≡ true → S (pointer_first v r lower u) (pointer_first z r under t)
    pointer_first_same u t e c = go r
      where
        goes_same : (u : One) (t : Two) → v.item u ≡ z.item t → goes_on v u ≡ goes_on z t
        goes_same u t e = ap (λ (x : Item). is_sign s.LeftBracket (what_at x) || is_some (operator_of (what_at x))) e

        inside : (m : ℕ) (inside : Parser One (Tall Expr)) (within : Parser Two (Tall Expr)) → S inside within → S (closed v m inside) (closed z m within)
        inside m p q d =
            bind_alike ways p q (λ e. close v s.RightParenthesis (fits m e.levels) (pure (wrapped e))) (λ e. close z s.RightParenthesis (fits m e.levels) (pure (wrapped e))) d
            (λ e. close_same s.RightParenthesis (fits m e.levels) (pure (wrapped e)) (pure (wrapped e)) (pure_alike ways (wrapped e)))

        go : (r : ℕ) → S (pointer_first v r lower u) (pointer_first z r under t)
        go zero = λ x y d. (fault_alike ways (goes_on v) (goes_on z) goes_same x y d, d)
        go (suc m) = λ x y d. inside (suc m) (lower loosest) (under loosest) (h loosest) (u ∷ x) (t ∷ y) (token e c d)

    pointer_same : (cast : Parser One (Tall Expr)) (its : Parser Two (Tall Expr)) → S cast its → (u : One) (t : Two) → v.item u ≡ z.item t → clear (z.item t) ≡ true → S (pointer v r lower cast u) (pointer z r under its t)
    unfolding pointer
    pointer_same cast its d u t e c =
        commit_alike ways (λ a. when (is v s.RightParenthesis a) cast) (λ a. when (is z s.RightParenthesis a) its) (pointer_first v r lower u) (pointer_first z r under t) (test_alike ways (is v s.RightParenthesis) (is z s.RightParenthesis) cast its (is_same s.RightParenthesis) d)
        (pointer_first_same u t e c)

    opened_same : (long next : Parser One (Tall Expr)) (its other : Parser Two (Tall Expr)) → S long its → S next other → S (opened v r lower long next) (opened z r under its other)
    unfolding opened
    opened_same long next its other d f =
        commit_alike ways (λ u. opened_by v r lower long next u (inner (seen v u))) (λ t. opened_by z r under its other t (inner (seen z t))) (closed v r (expression_in v r lower)) (closed z r (expression_in z r under))
        (record {
          moves = λ u t e c. subst (λ (x : Item). SM (opened_by v r lower long next u (inner (what_at x))) (opened_by z r under its other t (inner (seen z t)))) (sym e) (go u t e c (inner (seen z t)));
          barred = λ u t e b. subst (λ (x : Item). SM (opened_by v r lower long next u (inner (what_at x))) (opened_by z r under its other t (inner (seen z t)))) (sym e)
              (by_bars (λ a. SM (opened_by v r lower long next u (inner a)) (opened_by z r under its other t (inner a))) tt tt (z.item t) b);
          stays = λ t b. by_bars (λ a. Stays ways (opened_by z r under its other t (inner a))) tt tt (z.item t) b;
        })
        (closed_same (expression_in v r lower) (expression_in z r under) expression_in_same)
      where
        go : (u : One) (t : Two) → v.item u ≡ z.item t → clear (z.item t) ≡ true → (x : Inner) → SM (opened_by v r lower long next u x) (opened_by z r under its other t x)
        go u t e c i.Int = when_alike ways v.casts z.casts (int_cast v) (int_cast z) like.casts int_cast_same
        go u t e c i.Long = sign_same s.RightParenthesis long its d
        go u t e c i.Pointer = pointer_same next other f u t e c
        go u t e c i.Other = tt

    may_same : may_open v r ≡ may_open z r
    may_same = go r
      where
        go : (r : ℕ) → may_open v r ≡ may_open z r
        go zero = like.casts
        go (suc m) = refl

    -- ---- operands

    index_same : S (index_in v r lower) (index_in z r under)
    index_same =
        bind_alike ways (lower loosest) (under loosest) (λ e. close v s.RightBracket (fits r e.levels) (pure e)) (λ e. close z s.RightBracket (fits r e.levels) (pure e)) (h loosest)
        (λ e. close_same s.RightBracket (fits r e.levels) (pure e) (pure e) (pure_alike ways e))

    pub behind_same : {A : Type 0} (make : Tall Expr → A) (alone : A) → S (behind_name v r lower make alone) (behind_name z r under make alone)
    behind_same make alone =
        option_alike ways (bracket_by v r (indexed v r lower make)) (bracket_by z r (indexed z r under make)) alone
        (by_what (λ a. if is_sign s.LeftBracket a then deeper (λ _. indexed v r lower make) r else Stop) (λ a. if is_sign s.LeftBracket a then deeper (λ _. indexed z r under make) r else Stop) (λ a. go (is_sign s.LeftBracket a)) tt tt)
      where
        go : (b : Bool) → SM (cond b (deeper (λ _. indexed v r lower make) r) Stop) (cond b (deeper (λ _. indexed z r under make) r) Stop)
        go true = deeper_alike ways (λ _. indexed v r lower make) (λ _. indexed z r under make) r
            (λ m e. bind_alike ways (index_in v r lower) (index_in z r under) (λ e. pure (make e)) (λ e. pure (make e)) index_same (λ e. pure_alike ways (make e)))
        go false = tt

    operand_by_same : (x : Head) → SM (operand_by v r lower x) (operand_by z r under x)
    unfolding name_operand
    operand_by_same (Head.Value n) = pure_alike ways (over (tree.Number n) 0)
    operand_by_same (Head.Word n) = behind_same (element n) (over (tree.Name n) 0)
    operand_by_same Head.Open = go (may_open v r) (may_open z r) may_same
      where
        go : (b c : Bool) → b ≡ c → SM (fitting b (opened v r lower (cast_name v) (pointer_cast v))) (fitting c (opened z r under (cast_name z) (pointer_cast z)))
        go true true e = opened_same (cast_name v) (pointer_cast v) (cast_name z) (pointer_cast z) cast_name_same pointer_cast_same
        go false false e = tt
        go true false e = absurd cc
        go false true e = absurd cc
    operand_by_same Head.Not = deeper_alike ways (λ _. signed lower negation) (λ _. signed under negation) r (λ m e. bind_alike ways (lower 0) (under 0) (λ e. pure (negation e)) (λ e. pure (negation e)) (h 0) (λ e. pure_alike ways (negation e)))
    operand_by_same Head.Minus = deeper_alike ways (λ _. signed lower opposite) (λ _. signed under opposite) r (λ m e. bind_alike ways (lower 0) (under 0) (λ e. pure (opposite e)) (λ e. pure (opposite e)) (h 0) (λ e. pure_alike ways (opposite e)))
    operand_by_same Head.Other = tt

    operand_same : S (operand v r lower) (operand z r under)
    unfolding operand
    operand_same =
        choice_alike ways (λ u. operand_by v r lower (head (seen v u))) (λ t. operand_by z r under (head (seen z t)))
        (by_what (λ a. operand_by v r lower (head a)) (λ a. operand_by z r under (head a)) (λ a. operand_by_same (head a)) tt tt)

  -- ---- expressions

  pub chain_same : (r k : ℕ) → S (chain (expressions_of v) r k) (chain (expressions_of z) r k)
  chain_same r k =
      chain_alike ways (operator_at v) (operator_at z) (λ k u t e. ap (λ (x : Item). if_loose k (operator_of (what_at x))) e) (λ k t b. by_bars (λ a. if_loose k (operator_of a) ≡ None) refl refl (z.item t) b) joined (λ e. e.levels - 1) (operand v) (operand z)
      (λ r lower under h. operand_same r lower under h) r k

  pub lower_same : (r k : ℕ) → S (lower_in v r k) (lower_in z r k)
  lower_same zero k = refuse_alike ways (Tall Expr)
  lower_same (suc r) k = chain_same r k

  pub expression_same : (r : ℕ) → S (expression v r) (expression z r)
  expression_same r = expression_in_same r (lower_in v r) (lower_in z r) (lower_same r)

  pub place_behind_same : (r : ℕ) (n : List ℕ) → S (place_behind v r n) (place_behind z r n)
  place_behind_same r n = behind_same r (lower_in v r) (lower_in z r) (lower_same r) (member n) (scalar n)

  pub place_same : (r : ℕ) → S (place v r) (place z r)
  unfolding place
  place_same r = choice_alike ways (named v (place_behind v r)) (named z (place_behind z r)) (named_same (place_behind v r) (place_behind z r) (place_behind_same r))

  pub address_same : (r : ℕ) → S (address v r) (address z r)
  unfolding address
  address_same r = sign_same s.Ampersand (place v r) (place z r) (place_same r)

  -- ---- lists, calls and arguments

  added_same : (r : ℕ) (all : Tall (List Expr)) → S (added v r all) (added z r all)
  added_same r all = bind_alike ways (expression v r) (expression z r) (λ e. pure (with_expression all e)) (λ e. pure (with_expression all e)) (expression_same r) (λ e. pure_alike ways (with_expression all e))

  pub more_same : (r : ℕ) (all : Tall (List Expr)) → S (more_expressions v r all) (more_expressions z r all)
  more_same r all = loop_alike ways (comma_by v r) (comma_by z r) (λ a. closes_same s.Comma (fits r a.levels) (added v r a) (added z r a) (added_same r a)) all

  pub expressions_same : (r : ℕ) → S (expressions v r) (expressions z r)
  unfolding expressions
  expressions_same r = bind_alike ways (expression v r) (expression z r) (λ e. more_expressions v r (one_expression e)) (λ e. more_expressions z r (one_expression e)) (expression_same r) (λ e. more_same r (one_expression e))

  pub some_arguments_same : (r : ℕ) → S (some_arguments v r) (some_arguments z r)
  some_arguments_same r =
      bind_alike ways (expressions v r) (expressions z r) (λ all. close v s.RightParenthesis (fits r all.levels) (pure (as_arguments all))) (λ all. close z s.RightParenthesis (fits r all.levels) (pure (as_arguments all))) (expressions_same r)
      (λ all. close_same s.RightParenthesis (fits r all.levels) (pure (as_arguments all)) (pure (as_arguments all)) (pure_alike ways (as_arguments all)))

  pub arguments_same : (r : ℕ) → S (arguments v r) (arguments z r)
  unfolding arguments
  arguments_same r =
      commit_alike ways (λ u. when (is v s.RightParenthesis u) (pure no_arguments)) (λ t. when (is z s.RightParenthesis t) (pure no_arguments)) (some_arguments v r) (some_arguments z r)
      (test_alike ways (is v s.RightParenthesis) (is z s.RightParenthesis) (pure no_arguments) (pure no_arguments) (is_same s.RightParenthesis) (pure_alike ways no_arguments)) (some_arguments_same r)

  pub call_behind_same : (r : ℕ) (f : List ℕ) → S (call_behind v r f) (call_behind z r f)
  unfolding call_behind
  call_behind_same r f =
      sign_same s.LeftParenthesis (arguments v r >>= λ args. pure (call_of f args)) (arguments z r >>= λ args. pure (call_of f args))
      (bind_alike ways (arguments v r) (arguments z r) (λ args. pure (call_of f args)) (λ args. pure (call_of f args)) (arguments_same r) (λ args. pure_alike ways (call_of f args)))

  pub call_same : (r : ℕ) → S (call v r) (call z r)
  unfolding call
  call_same r =
      choice_alike ways (λ u. go_named (call_behind v r) (callee (seen v u))) (λ t. go_named (call_behind z r) (callee (seen z t)))
      (by_what (λ a. go_named (call_behind v r) (callee a)) (λ a. go_named (call_behind z r) (callee a)) (λ a. go_named_same (call_behind v r) (call_behind z r) (call_behind_same r) (callee a)) tt tt)

  unary_same : (r : ℕ) → S (unary v r) (unary z r)
  unary_same r = operand_same r (lower_in v r) (lower_in z r) (lower_same r)

  cast_unary_same : (r : ℕ) → S (cast_unary v r) (cast_unary z r)
  unfolding cast_unary
  cast_unary_same r =
      commit_alike ways (cast_by v r) (cast_by z r) (unary v r) (unary z r)
      (by_what (λ a. if is_sign s.LeftParenthesis a then fitting (may_open v r) (opened v r (lower_in v r) (unary v r) (unary v r)) else Stop) (λ a. if is_sign s.LeftParenthesis a then fitting (may_open z r) (opened z r (lower_in z r) (unary z r) (unary z r)) else Stop)
      (λ a. go (is_sign s.LeftParenthesis a)) tt tt) (unary_same r)
    where
      fit : (b c : Bool) → b ≡ c → SM (fitting b (opened v r (lower_in v r) (unary v r) (unary v r))) (fitting c (opened z r (lower_in z r) (unary z r) (unary z r)))
      fit true true e = opened_same r (lower_in v r) (lower_in z r) (lower_same r) (unary v r) (unary v r) (unary z r) (unary z r) (unary_same r) (unary_same r)
      fit false false e = tt
      fit true false e = absurd cc
      fit false true e = absurd cc

      go : (b : Bool) → SM (cond b (fitting (may_open v r) (opened v r (lower_in v r) (unary v r) (unary v r))) Stop) (cond b (fitting (may_open z r) (opened z r (lower_in z r) (unary z r) (unary z r))) Stop)
      go true = fit (may_open v r) (may_open z r) (may_same r (lower_in v r) (lower_in z r) (lower_same r))
      go false = tt

  void_cast_same : (r : ℕ) → S (void_cast v r) (void_cast z r)
  unfolding void_cast
  void_cast_same r =
      must_alike ways (λ u. is_void (seen v u)) (λ t. is_void (seen z t)) _ _ (test_by_what is_void refl refl) (sign_same s.Star _ _ (sign_same s.RightParenthesis (cast_unary v r) (cast_unary z r) (cast_unary_same r)))

  -- the argument of a new thread
  pub argument_same : (r : ℕ) → S (argument v r) (argument z r)
  unfolding argument
  argument_same r = choice_alike ways (λ u. argument_by v r (seen v u)) (λ t. argument_by z r (seen z t)) (by_what (argument_by v r) (argument_by z r) go tt tt)
    where
      opens : (b c : Bool) → b ≡ c → SM (cond b (deeper (void_cast v) r) Stop) (cond c (deeper (void_cast z) r) Stop)
      opens true true e = deeper_alike ways (void_cast v) (void_cast z) r (λ m e. void_cast_same m)
      opens false false e = tt
      opens true false e = absurd cc
      opens false true e = absurd cc

      go : (a : What) → SM (argument_by v r a) (argument_by z r a)
      go (What.Fixed w.Null) = pure_alike ways (tall (tree.Number 0) 0)
      go (What.Sign s.LeftParenthesis) = opens v.void z.void like.void
      go _ = tt
