-- Statements and bodies are read alike where tokens are seen alike.
use Rattle.std.proofs.Common.{◌≡◌, ℕ, zero, suc, ◌-◌, Bool, true, false, cond, if◌then◌else◌, List, [], ◌∷◌, length, Option, Some, None, refl, sym, ap, subst}
use Rattle.c_lexer.specs.declared.token.Sign.{Sign}
use Rattle.c_lexer.specs.declared.token.Sign.TheVariants as s
use Rattle.c_tree.specs.declared.program.Kind.{Kind}
use Rattle.c_tree.specs.declared.program.Slot.{Slot}
use Rattle.c_tree.specs.Expressions as tree
use Rattle.c_tree.specs.Expressions.{Expr, Place}
use Rattle.c_tree.specs.Lined as lined
use Rattle.c_tree.specs.Lined.{Stmt}
use Rattle.c_grammar.specs.Items.{Item, name_of}
use Rattle.c_grammar.specs.Levels.{Tall, tall, nothing, alone, followed}
use Rattle.c_grammar.specs.Statements.{Choice, chosen, repeated, counted, Body, body_then, body_with}
use Rattle.parse_laws.specs.Parser.{Parser, ◌>>=◌, pure, refuse, Move, Stop, Deep, Go, commit, when, must, deeper, many}
use Rattle.parse_laws.proofs.Alike.{Ways, token, Alike, AlikeMove, AlikeMoves, Stays, alike_moves, pure_alike, commit_alike, choice_alike, option_alike, when_alike, when_stays, test_alike, must_alike, bind_alike, then_alike, deeper_alike, loop_alike, many_alike}
use Rattle.c_expressions.specs.Parsers.{Sight, what_at, seen, is, go_named, named, fits, close, expression, address}
use Rattle.c_expressions.proofs.Same.{Like, by_bars, bars, clear, ways, by_what, test_by_what, is_same, sign_same, go_named_same, close_same, expression_same, address_same}
use Rattle.c_simple.specs.Words.{number_of}
use Rattle.c_simple.specs.Parsers.{line_in, line, step_by, begins_simple_at}
use Rattle.c_simple.proofs.Same.{step_same, simple_same}
use Rattle.c_statements.specs.declared.word.Opening.{Opening}
use Rattle.c_statements.specs.declared.word.Opening.TheVariants as o
use Rattle.c_statements.specs.declared.word.Question.{Question}
use Rattle.c_statements.specs.declared.word.Question.TheVariants as question
use Rattle.c_statements.specs.declared.word.Comparison.{Comparison}
use Rattle.c_statements.specs.declared.word.Comparison.TheVariants as comparison
use Rattle.c_statements.specs.declared.word.Start.{Start}
use Rattle.c_statements.specs.declared.word.Start.TheVariants as f
use Rattle.c_statements.specs.declared.word.Thread.{Thread}
use Rattle.c_statements.specs.declared.word.Thread.TheVariants as th
use Rattle.c_statements.specs.Words.{statement_opening, asks, behind_try, is_try, is_zero, first_start, thread_opening, is_else, is_thread_type}
use Rattle.c_statements.specs.Parsers.{tested, condition, as_value, as_busy, as_taken, as_negated, valued, tried, zero_behind, compared_by, compared, uncompared, plain, negated, behind_not, two_deeper, asked_by, asked, trial, initial_value, declared, first_by, first, given_test, middle, last_by, last, block, arm_by, arm, second_arm, else_by, else_arm, choice, repetition, counted_arm, counted_parts, counting, twice_deeper, simple_in, statement_in, statement_by, slot_of, length_by, slot_length, slot_behind, slot_by, one_more_slot, slot, comma_by, more_slots, named_slots, slots_by, slot_list, empty_body, stated, stated_by, named_thread, with_slots, with_slots_by, static_threads, threads, main_by, is_main, body_by, body}

module _ {One Two : Type 0} (v : Sight One) (z : Sight Two) (like : Like v z) (Later : List One → List Two → Type 0) (long : (x : List One) (y : List Two) → Later x y → length x ≡ length y) where
  abbrev Y : Ways One Two Item
  Y = ways v z like Later long

  abbrev A : {B : Type 0} → Parser One B → Parser Two B → Type 0
  A p q = Alike Y p q

  abbrev AM : {B : Type 0} → Move One B → Move Two B → Type 0
  AM k m = AlikeMove Y k m

  abbrev AMs : {B : Type 0} → (One → Move One B) → (Two → Move Two B) → Type 0
  AMs k m = AlikeMoves Y k m

  then_pure : {B C : Type 0} (p : Parser One B) (q : Parser Two B) (g : B → C) → A p q → A (p >>= λ x. pure (g x)) (q >>= λ x. pure (g x))
  then_pure p q g h = bind_alike Y p q (λ x. pure (g x)) (λ x. pure (g x)) h (λ x. pure_alike Y (g x))

  sign_then : {B : Type 0} (x : Sign) (p : Parser One B) (q : Parser Two B) → A p q → A (must (is v x) p) (must (is z x) q)
  sign_then x p q h = sign_same v z like Later long x p q h

  close_then : {B : Type 0} (x : Sign) (b : Bool) (a : B) → A (close v x b (pure a)) (close z x b (pure a))
  close_then x b a = close_same v z like Later long x b (pure a) (pure a) (pure_alike Y a)

  -- a name by its token, which is told its line
  named_line : {B : Type 0} (p : ℕ → List ℕ → Parser One B) (q : ℕ → List ℕ → Parser Two B) → ((l : ℕ) (n : List ℕ) → A (p l n) (q l n)) → AMs (λ u. named v (p (line v u)) u) (λ t. named z (q (line z t)) t)
  named_line p q h =
      alike_moves Y (λ u t e. subst (λ (x : Item). AM (go_named (p (line_in x)) (name_of (what_at x))) (named z (q (line z t)) t)) (sym e) (go_named_same v z like Later long (p (line z t)) (q (line z t)) (h (line z t)) (name_of (seen z t))))
      (λ t b. by_bars (λ a. Stays Y (go_named (q (line z t)) (name_of a))) tt tt (z.item t) b)

  -- ---- what `while` tests

  tested_same : (r : ℕ) → A (tested v r) (tested z r)
  tested_same r = bind_alike Y (expression v r) (expression z r) (λ e. close v s.RightParenthesis (fits r e.levels) (pure e)) (λ e. close z s.RightParenthesis (fits r e.levels) (pure e)) (expression_same v z like Later long r) (λ e. close_then s.RightParenthesis (fits r e.levels) e)

  condition_same : (r : ℕ) → A (condition v r) (condition z r)
  unfolding condition
  condition_same r = sign_then s.LeftParenthesis (tested v r) (tested z r) (tested_same r)

  -- ---- what `if` tests

  valued_same : (r : ℕ) → A (valued v r) (valued z r)
  valued_same r = bind_alike Y (expression v r) (expression z r) (λ e. close v s.RightParenthesis (fits r e.levels) (pure (as_value e))) (λ e. close z s.RightParenthesis (fits r e.levels) (pure (as_value e))) (expression_same v z like Later long r) (λ e. close_then s.RightParenthesis (fits r e.levels) (as_value e))

  tried_same : (r : ℕ) → A (tried v r) (tried z r)
  unfolding tried
  tried_same r = bind_alike Y (address v r) (address z r) (λ p. must (is v s.RightParenthesis) (pure p)) (λ p. must (is z s.RightParenthesis) (pure p)) (address_same v z like Later long r) (λ p. sign_then s.RightParenthesis (pure p) (pure p) (pure_alike Y p))

  zero_same : (x : Tall Choice) → A (zero_behind v x) (zero_behind z x)
  zero_same x =
      must_alike Y (λ u. is_zero (seen v u)) (λ t. is_zero (seen z t)) (must (is v s.RightParenthesis) (pure x)) (must (is z s.RightParenthesis) (pure x)) (test_by_what v z like Later long is_zero refl refl)
      (sign_then s.RightParenthesis (pure x) (pure x) (pure_alike Y x))

  compared_same : (p : Tall Place) → A (compared v p) (compared z p)
  unfolding compared
  compared_same p =
      choice_alike Y (λ u. compared_by v p (behind_try (seen v u))) (λ t. compared_by z p (behind_try (seen z t))) (by_what v z like Later long (λ a. compared_by v p (behind_try a)) (λ a. compared_by z p (behind_try a)) (λ a. go (behind_try a)) tt tt)
    where
      go : (x : Comparison) → AM (compared_by v p x) (compared_by z p x)
      go comparison.End = pure_alike Y (as_busy p)
      go comparison.Equal = zero_same (as_taken p)
      go comparison.NotEqual = zero_same (as_busy p)
      go comparison.Other = tt

  uncompared_same : (p : Tall Place) → A (uncompared v p) (uncompared z p)
  uncompared_same p = sign_then s.RightParenthesis (pure (as_negated p)) (pure (as_negated p)) (pure_alike Y (as_negated p))

  plain_same : (r : ℕ) (u : One) (t : Two) → v.item u ≡ z.item t → clear (z.item t) ≡ true → A (plain v r u) (plain z r t)
  unfolding plain
  plain_same r u t e c =
      commit_alike Y (λ x. when (is v s.LeftParenthesis x) (tried v (r - 1) >>= compared v)) (λ y. when (is z s.LeftParenthesis y) (tried z (r - 1) >>= compared z)) (λ ts. valued v r (u ∷ ts)) (λ ts. valued z r (t ∷ ts))
      (test_alike Y (is v s.LeftParenthesis) (is z s.LeftParenthesis) (tried v (r - 1) >>= compared v) (tried z (r - 1) >>= compared z) (is_same v z like Later long s.LeftParenthesis) (bind_alike Y (tried v (r - 1)) (tried z (r - 1)) (compared v) (compared z) (tried_same (r - 1)) compared_same))
      (λ x y d. valued_same r (u ∷ x) (t ∷ y) (token e c d))

  negated_same : (r : ℕ) (u : One) (t : Two) → v.item u ≡ z.item t → clear (z.item t) ≡ true → (m : One) (n : Two) → v.item m ≡ z.item n → clear (z.item n) ≡ true → A (negated v r u m) (negated z r t n)
  unfolding negated
  negated_same r u t e c m n f i =
      commit_alike Y (λ x. when (is v s.LeftParenthesis x) (tried v (r - 2) >>= uncompared v)) (λ y. when (is z s.LeftParenthesis y) (tried z (r - 2) >>= uncompared z)) (λ ts. valued v r (u ∷ m ∷ ts)) (λ ts. valued z r (t ∷ n ∷ ts))
      (test_alike Y (is v s.LeftParenthesis) (is z s.LeftParenthesis) (tried v (r - 2) >>= uncompared v) (tried z (r - 2) >>= uncompared z) (is_same v z like Later long s.LeftParenthesis) (bind_alike Y (tried v (r - 2)) (tried z (r - 2)) (uncompared v) (uncompared z) (tried_same (r - 2)) uncompared_same))
      (λ x y d. valued_same r (u ∷ m ∷ x) (t ∷ n ∷ y) (token e c (token f i d)))

  try_same : (u : One) (t : Two) → v.item u ≡ z.item t → is_try (seen v u) ≡ is_try (seen z t)
  try_same u t e = ap (λ (x : Item). is_try (what_at x)) e

  behind_not_same : (r : ℕ) (u : One) (t : Two) → v.item u ≡ z.item t → clear (z.item t) ≡ true → A (behind_not v r u) (behind_not z r t)
  unfolding behind_not
  behind_not_same r u t e c =
      commit_alike Y (λ m. when (is_try (seen v m)) (negated v r u m)) (λ n. when (is_try (seen z n)) (negated z r t n)) (λ ts. valued v r (u ∷ ts)) (λ ts. valued z r (t ∷ ts))
      (record {
        moves = λ m n f i. when_alike Y (is_try (seen v m)) (is_try (seen z n)) (negated v r u m) (negated z r t n) (try_same m n f) (negated_same r u t e c m n f i);
        barred = λ m n f b. none (is_try (seen v m)) (is_try (seen z n)) m n (try_same m n f) (no_try (z.item n) b);
        stays = λ n b. when_stays Y (is_try (seen z n)) (negated z r t n) (no_try (z.item n) b);
      })
      (λ x y d. valued_same r (u ∷ x) (t ∷ y) (token e c d))
    where
      no_try : (x : Item) → bars x ≡ true → is_try (what_at x) ≡ false
      no_try x b = by_bars (λ a. is_try a ≡ false) refl refl x b

      none : (x y : Bool) (m : One) (n : Two) → x ≡ y → y ≡ false → AM (when x (negated v r u m)) (when y (negated z r t n))
      none false false m n e d = tt
      none true true m n e d = absurd cc
      none true false m n e d = absurd cc
      none false true m n e d = absurd cc

  two_same : {B : Type 0} (p : Parser One B) (q : Parser Two B) (r : ℕ) → A p q → AM (two_deeper p r) (two_deeper q r)
  two_same p q zero h = tt
  two_same p q (suc r) h = deeper_alike Y (λ _. p) (λ _. q) r (λ m e. h)

  asked_same : (r : ℕ) → A (asked v r) (asked z r)
  unfolding asked
  asked_same r =
      commit_alike Y (λ u. asked_by v r u (asks (seen v u))) (λ t. asked_by z r t (asks (seen z t))) (valued v r) (valued z r)
      (record {
        moves = λ u t e c. subst (λ (x : Item). AM (asked_by v r u (asks (what_at x))) (asked_by z r t (asks (seen z t)))) (sym e) (go u t e c (asks (seen z t)));
        barred = λ u t e b. subst (λ (x : Item). AM (asked_by v r u (asks (what_at x))) (asked_by z r t (asks (seen z t)))) (sym e) (none u t (asks (seen z t)) (no_question (z.item t) b));
        stays = λ t b. calm t (asks (seen z t)) (no_question (z.item t) b);
      })
      (valued_same r)
    where
      no_question : (x : Item) → bars x ≡ true → asks (what_at x) ≡ question.Expression
      no_question x b = by_bars (λ a. asks a ≡ question.Expression) refl refl x b

      go : (u : One) (t : Two) → v.item u ≡ z.item t → clear (z.item t) ≡ true → (x : Question) → AM (asked_by v r u x) (asked_by z r t x)
      go u t e c question.TryLock = deeper_alike Y (λ _. plain v r u) (λ _. plain z r t) r (λ m d. plain_same r u t e c)
      go u t e c question.Not = two_same (behind_not v r u) (behind_not z r t) r (behind_not_same r u t e c)
      go u t e c question.Expression = tt

      none : (u : One) (t : Two) (x : Question) → x ≡ question.Expression → AM (asked_by v r u x) (asked_by z r t x)
      none u t question.Expression d = tt
      none u t question.TryLock d = absurd cc
      none u t question.Not d = absurd cc

      calm : (t : Two) (x : Question) → x ≡ question.Expression → Stays Y (asked_by z r t x)
      calm t question.Expression d = tt
      calm t question.TryLock d = absurd cc
      calm t question.Not d = absurd cc

  trial_same : (r : ℕ) → A (trial v r) (trial z r)
  unfolding trial
  trial_same r = sign_then s.LeftParenthesis (asked v r) (asked z r) (asked_same r)

  -- ---- the parts of a `for`

  initial_same : (r l : ℕ) (n : List ℕ) → A (initial_value v r l n) (initial_value z r l n)
  initial_same r l n =
      bind_alike Y (expression v r) (expression z r) (λ e. close v s.Semicolon (fits r e.levels) (pure (alone (lined.Declare l n (Some e.tree)) e.levels))) (λ e. close z s.Semicolon (fits r e.levels) (pure (alone (lined.Declare l n (Some e.tree)) e.levels)))
      (expression_same v z like Later long r) (λ e. close_then s.Semicolon (fits r e.levels) (alone (lined.Declare l n (Some e.tree)) e.levels))

  declared_same : (r : ℕ) → A (declared v r) (declared z r)
  unfolding declared
  declared_same r =
      choice_alike Y (λ u. named v (λ n. must (is v s.Assign) (initial_value v r (line v u) n)) u) (λ t. named z (λ n. must (is z s.Assign) (initial_value z r (line z t) n)) t)
      (named_line (λ l n. must (is v s.Assign) (initial_value v r l n)) (λ l n. must (is z s.Assign) (initial_value z r l n)) (λ l n. sign_then s.Assign (initial_value v r l n) (initial_value z r l n) (initial_same r l n)))

  first_same : (r : ℕ) → A (first v r) (first z r)
  unfolding first
  first_same r = choice_alike Y (λ u. first_by v r u (first_start (seen v u))) (λ t. first_by z r t (first_start (seen z t))) (record {
    moves = λ u t e c. subst (λ (x : Item). AM (first_by v r u (first_start (what_at x))) (first_by z r t (first_start (seen z t)))) (sym e) (go u t (first_start (seen z t)) ((step_same v z like Later long s.Semicolon r).moves u t e c));
    barred = λ u t e b. subst (λ (x : Item). AM (first_by v r u (first_start (what_at x))) (first_by z r t (first_start (seen z t)))) (sym e) (go u t (first_start (seen z t)) ((step_same v z like Later long s.Semicolon r).barred u t e b));
    stays = λ t b. by_bars (λ a. (x : Start) → x ≡ first_start a → Stays Y (first_by z r t x)) (calm t b) (calm t b) (z.item t) b (first_start (seen z t)) refl;
  })
    where
      go : (u : One) (t : Two) (x : Start) → AM (step_by v s.Semicolon r u) (step_by z s.Semicolon r t) → AM (first_by v r u x) (first_by z r t x)
      go u t f.Nothing d = pure_alike Y nothing
      go u t f.Int d = deeper_alike Y (λ _. declared v r) (λ _. declared z r) r (λ m e. declared_same r)
      go u t f.Step d = d

      calm : (t : Two) → bars (z.item t) ≡ true → (x : Start) → x ≡ f.Step → Stays Y (first_by z r t x)
      calm t b f.Step e = (step_same v z like Later long s.Semicolon r).stays t b
      calm t b f.Nothing e = absurd cc
      calm t b f.Int e = absurd cc

  test_same : (r : ℕ) → A (middle v r) (middle z r)
  unfolding middle
  test_same r =
      commit_alike Y (λ u. when (is v s.Semicolon u) (pure (tall (tree.Number 1) 0))) (λ t. when (is z s.Semicolon t) (pure (tall (tree.Number 1) 0))) (given_test v r) (given_test z r)
      (test_alike Y (is v s.Semicolon) (is z s.Semicolon) (pure (tall (tree.Number 1) 0)) (pure (tall (tree.Number 1) 0)) (is_same v z like Later long s.Semicolon) (pure_alike Y (tall (tree.Number 1) 0)))
      (bind_alike Y (expression v r) (expression z r) (λ e. close v s.Semicolon (fits r e.levels) (pure e)) (λ e. close z s.Semicolon (fits r e.levels) (pure e)) (expression_same v z like Later long r) (λ e. close_then s.Semicolon (fits r e.levels) e))

  -- a sign, or else other moves
  sign_or : {B : Type 0} (x : Sign) (p : Parser One B) (q : Parser Two B) (k : One → Move One B) (m : Two → Move Two B) → A p q → AMs k m → AMs (λ u. if is v x u then Go p else k u) (λ t. if is z x t then Go q else m t)
  sign_or x p q k m h d = record { moves = λ u t e c. go u t (is v x u) (is z x t) ((is_same v z like Later long x).same u t e) (d.moves u t e c); barred = λ u t e b. go u t (is v x u) (is z x t) ((is_same v z like Later long x).same u t e) (d.barred u t e b); stays = λ t b. calm t (is z x t) ((is_same v z like Later long x).passes t b) (d.stays t b) }
    where
      go : (u : One) (t : Two) (b c : Bool) → b ≡ c → AM (k u) (m t) → AM (cond b (Go p) (k u)) (cond c (Go q) (m t))
      go u t true true e y = h
      go u t false false e y = y
      go u t true false e y = absurd cc
      go u t false true e y = absurd cc

      calm : (t : Two) (c : Bool) → c ≡ false → Stays Y (m t) → Stays Y (cond c (Go q) (m t))
      calm t false e y = y
      calm t true e y = absurd cc

  last_same : (r : ℕ) → A (last v r) (last z r)
  unfolding last
  last_same r = choice_alike Y (last_by v r) (last_by z r) (sign_or s.RightParenthesis (pure nothing) (pure nothing) (step_by v s.RightParenthesis r) (step_by z s.RightParenthesis r) (pure_alike Y nothing) (step_same v z like Later long s.RightParenthesis r))

  -- ---- arms and statements that hold others

  module _ (lower : One → Move One (Tall (List Stmt))) (under : Two → Move Two (Tall (List Stmt))) (h : AMs lower under) where
    block_same : A (block v lower) (block z under)
    unfolding block
    block_same =
        bind_alike Y (many lower followed nothing) (many under followed nothing) (λ all. must (is v s.RightBrace) (pure all)) (λ all. must (is z s.RightBrace) (pure all)) (many_alike Y lower under followed h nothing)
        (λ all. sign_then s.RightBrace (pure all) (pure all) (pure_alike Y all))

    arm_same : A (arm v lower) (arm z under)
    unfolding arm
    arm_same = choice_alike Y (arm_by v lower) (arm_by z under) (sign_or s.LeftBrace (block v lower) (block z under) lower under block_same h)

    else_same : (l : ℕ) (e : Tall Choice) (one : Tall (List Stmt)) → A (else_arm v lower l e one) (else_arm z under l e one)
    else_same l e one =
        option_alike Y (else_by v lower l e one) (else_by z under l e one) (chosen l e one nothing)
        (test_alike Y (λ u. is_else (seen v u)) (λ t. is_else (seen z t)) (second_arm v lower l e one) (second_arm z under l e one) (test_by_what v z like Later long is_else refl refl) (then_pure (arm v lower) (arm z under) (chosen l e one) arm_same))

    choice_same : (r l : ℕ) → A (choice v r lower l) (choice z r under l)
    unfolding choice
    choice_same r l =
        bind_alike Y (trial v r) (trial z r) (λ e. arm v lower >>= λ one. else_arm v lower l e one) (λ e. arm z under >>= λ one. else_arm z under l e one) (trial_same r)
        (λ e. bind_alike Y (arm v lower) (arm z under) (λ one. else_arm v lower l e one) (λ one. else_arm z under l e one) arm_same (λ one. else_same l e one))

    repetition_same : (r l : ℕ) → A (repetition v r lower l) (repetition z r under l)
    unfolding repetition
    repetition_same r l =
        bind_alike Y (condition v r) (condition z r) (λ e. arm v lower >>= λ body. pure (repeated l e body)) (λ e. arm z under >>= λ body. pure (repeated l e body)) (condition_same r) (λ e. then_pure (arm v lower) (arm z under) (repeated l e) arm_same)

    counting_same : (r l : ℕ) → A (counting v r lower l) (counting z r under l)
    unfolding counting
    counting_same r l =
        sign_then s.LeftParenthesis (counted_parts v r lower l) (counted_parts z r under l)
        (bind_alike Y (first v r) (first z r) (λ one. middle v r >>= λ e. last v r >>= λ two. counted_arm v lower l one e two) (λ one. middle z r >>= λ e. last z r >>= λ two. counted_arm z under l one e two) (first_same r)
        (λ one. bind_alike Y (middle v r) (middle z r) (λ e. last v r >>= λ two. counted_arm v lower l one e two) (λ e. last z r >>= λ two. counted_arm z under l one e two) (test_same r)
        (λ e. bind_alike Y (last v r) (last z r) (λ two. counted_arm v lower l one e two) (λ two. counted_arm z under l one e two) (last_same r) (λ two. then_pure (arm v lower) (arm z under) (counted l one e two) arm_same))))

  twice_same : {B : Type 0} (p : ℕ → Parser One B) (q : ℕ → Parser Two B) (r : ℕ) → ((m : ℕ) → A (p m) (q m)) → AM (twice_deeper p r) (twice_deeper q r)
  twice_same p q zero h = tt
  twice_same p q (suc r) h = deeper_alike Y (λ m. p (suc m)) (λ m. q (suc m)) r (λ m e. h (suc m))

  simple_in_same : (k : Kind) (room : ℕ) → AMs (simple_in v k room) (simple_in z k room)
  simple_in_same k zero =
      by_what v z like Later long (λ a. if begins_simple_at a then Deep else Stop) (λ a. if begins_simple_at a then Deep else Stop) (λ a. go (begins_simple_at a)) tt tt
    where
      go : (b : Bool) → AM {B = Tall (List Stmt)} (cond b Deep Stop) (cond b Deep Stop)
      go true = tt
      go false = tt
  simple_in_same k (suc r) = simple_same v z like Later long k r

  module _ (k : Kind) (room : ℕ) (lower : One → Move One (Tall (List Stmt))) (under : Two → Move Two (Tall (List Stmt))) (h : AMs lower under) where
    statement_in_same : AMs (λ u. statement_in v k room lower u (statement_opening (seen v u))) (λ t. statement_in z k room under t (statement_opening (seen z t)))
    statement_in_same = record {
      moves = λ u t e c. subst (λ (x : Item). AM (statement_in v k room lower u (statement_opening (what_at x))) (statement_in z k room under t (statement_opening (seen z t)))) (sym e) (go u t e (statement_opening (seen z t)) ((simple_in_same k room).moves u t e c));
      barred = λ u t e b. subst (λ (x : Item). AM (statement_in v k room lower u (statement_opening (what_at x))) (statement_in z k room under t (statement_opening (seen z t)))) (sym e) (go u t e (statement_opening (seen z t)) ((simple_in_same k room).barred u t e b));
      stays = λ t b. by_bars (λ a. (x : Opening) → x ≡ statement_opening a → Stays Y (statement_in z k room under t x)) (calm t b) (calm t b) (z.item t) b (statement_opening (seen z t)) refl;
    }
      where
        on_line : (u : One) (t : Two) → v.item u ≡ z.item t → (P : ℕ → Type 0) → P (line z t) → P (line v u)
        on_line u t e P y = subst P (sym (ap line_in e)) y

        go : (u : One) (t : Two) → v.item u ≡ z.item t → (x : Opening) → AM (simple_in v k room u) (simple_in z k room t) → AM (statement_in v k room lower u x) (statement_in z k room under t x)
        go u t e o.Empty d = pure_alike Y nothing
        go u t e o.If d = on_line u t e (λ l. AM (twice_deeper (λ r. choice v r lower l) room) (twice_deeper (λ r. choice z r under (line z t)) room)) (twice_same (λ r. choice v r lower (line z t)) (λ r. choice z r under (line z t)) room (λ r. choice_same lower under h r (line z t)))
        go u t e o.While d = on_line u t e (λ l. AM (twice_deeper (λ r. repetition v r lower l) room) (twice_deeper (λ r. repetition z r under (line z t)) room)) (twice_same (λ r. repetition v r lower (line z t)) (λ r. repetition z r under (line z t)) room (λ r. repetition_same lower under h r (line z t)))
        go u t e o.For d = on_line u t e (λ l. AM (deeper (λ r. counting v r lower l) room) (deeper (λ r. counting z r under (line z t)) room)) (deeper_alike Y (λ r. counting v r lower (line z t)) (λ r. counting z r under (line z t)) room (λ r f. counting_same lower under h r (line z t)))
        go u t e o.Simple d = d

        calm : (t : Two) → bars (z.item t) ≡ true → (x : Opening) → x ≡ o.Simple → Stays Y (statement_in z k room under t x)
        calm t b o.Simple e = (simple_in_same k room).stays t b
        calm t b o.Empty e = absurd cc
        calm t b o.If e = absurd cc
        calm t b o.While e = absurd cc
        calm t b o.For e = absurd cc

  stop_same : AMs {B = Tall (List Stmt)} (λ _. Stop) (λ _. Stop)
  stop_same = alike_moves Y (λ u t e. tt) (λ t b. tt)

  pub statement_same : (k : Kind) (room : ℕ) → AMs (statement_by v k room) (statement_by z k room)
  unfolding statement_by
  statement_same k zero = statement_in_same k zero (λ _. Stop) (λ _. Stop) stop_same
  statement_same k (suc r) = statement_in_same k (suc r) (statement_by v k r) (statement_by z k r) (statement_same k r)

  -- ---- threads

  slot_behind_same : (l : ℕ) (n : List ℕ) → A (slot_behind v l n) (slot_behind z l n)
  unfolding slot_behind slot_length
  slot_behind_same l n =
      option_alike Y (λ u. when (is v s.LeftBracket u) (slot_length v l n)) (λ t. when (is z s.LeftBracket t) (slot_length z l n)) (slot_of l n None)
      (test_alike Y (is v s.LeftBracket) (is z s.LeftBracket) (slot_length v l n) (slot_length z l n) (is_same v z like Later long s.LeftBracket)
      (choice_alike Y (λ u. length_by v l n (number_of (seen v u))) (λ t. length_by z l n (number_of (seen z t))) (by_what v z like Later long (λ a. length_by v l n (number_of a)) (λ a. length_by z l n (number_of a)) (λ a. go (number_of a)) tt tt)))
    where
      go : (x : Option ℕ) → AM (length_by v l n x) (length_by z l n x)
      go None = tt
      go (Some k) = sign_then s.RightBracket (pure (slot_of l n (Some k))) (pure (slot_of l n (Some k))) (pure_alike Y (slot_of l n (Some k)))

  slot_same : A (slot v) (slot z)
  unfolding slot
  slot_same = choice_alike Y (slot_by v) (slot_by z) (named_line (slot_behind v) (slot_behind z) slot_behind_same)

  more_slots_same : (all : List Slot) → A (more_slots v all) (more_slots z all)
  unfolding more_slots
  more_slots_same all =
      bind_alike Y (many (comma_by v) one_more_slot all) (many (comma_by z) one_more_slot all) (λ all. must (is v s.Semicolon) (pure all)) (λ all. must (is z s.Semicolon) (pure all))
      (many_alike Y (comma_by v) (comma_by z) one_more_slot (test_alike Y (is v s.Comma) (is z s.Comma) (slot v) (slot z) (is_same v z like Later long s.Comma) slot_same) all)
      (λ all. sign_then s.Semicolon (pure all) (pure all) (pure_alike Y all))

  named_slots_same : (l : ℕ) (n : List ℕ) → A (named_slots v l n) (named_slots z l n)
  named_slots_same l n = bind_alike Y (slot_behind v l n) (slot_behind z l n) (λ x. more_slots v (x ∷ [])) (λ x. more_slots z (x ∷ [])) (slot_behind_same l n) (λ x. more_slots_same (x ∷ []))

  pub slot_list_same : A (slot_list v) (slot_list z)
  unfolding slot_list
  slot_list_same = choice_alike Y (slots_by v) (slots_by z) (named_line (named_slots v) (named_slots z) named_slots_same)

  -- ---- bodies

  stated_by_same : (k : Kind) (room : ℕ) (b : Tall Body) → AMs (stated_by v k room b) (stated_by z k room b)
  stated_by_same k room b = then_alike Y (statement_by v k room) (statement_by z k room) (λ x. pure (body_then b x)) (λ x. pure (body_then b x)) (statement_same k room) (λ x. pure_alike Y (body_then b x))

  stated_same : (k : Kind) (room : ℕ) (b : Tall Body) → A (stated v k room b) (stated z k room b)
  stated_same k room b = then_pure (commit (statement_by v k room) refuse) (commit (statement_by z k room) refuse) (body_then b) (choice_alike Y (statement_by v k room) (statement_by z k room) (statement_same k room))

  with_slots_same : (b : Tall Body) → AMs (with_slots_by v b) (with_slots_by z b)
  with_slots_same b = named_line (with_slots v b) (with_slots z b) (λ l n. then_pure (named_slots v l n) (named_slots z l n) (body_with b) (named_slots_same l n))

  static_same : (b : Tall Body) → A (static_threads v b) (static_threads z b)
  unfolding static_threads
  static_same b =
      must_alike Y (λ u. is_thread_type (seen v u)) (λ t. is_thread_type (seen z t)) (commit (with_slots_by v b) refuse) (commit (with_slots_by z b) refuse) (test_by_what v z like Later long is_thread_type refl refl)
      (choice_alike Y (with_slots_by v b) (with_slots_by z b) (with_slots_same b))

  threads_same : (k : Kind) (room : ℕ) (b : Tall Body) (u : One) (t : Two) → v.item u ≡ z.item t → clear (z.item t) ≡ true → A (threads v k room b u) (threads z k room b t)
  unfolding threads
  threads_same k room b u t e c = commit_alike Y (with_slots_by v b) (with_slots_by z b) (named_thread v k room b u) (named_thread z k room b t) (with_slots_same b) (λ x y d. stated_same k room b (u ∷ x) (t ∷ y) (token e c d))

  main_same : (k : Kind) (room : ℕ) (b : Tall Body) → AMs (λ u. main_by v k room b u (thread_opening (seen v u))) (λ t. main_by z k room b t (thread_opening (seen z t)))
  main_same k room b = record {
    moves = λ u t e c. subst (λ (x : Item). AM (main_by v k room b u (thread_opening (what_at x))) (main_by z k room b t (thread_opening (seen z t)))) (sym e) (go u t e c (thread_opening (seen z t)));
    barred = λ u t e c. subst (λ (x : Item). AM (main_by v k room b u (thread_opening (what_at x))) (main_by z k room b t (thread_opening (seen z t)))) (sym e)
        (by_bars (λ a. (x : Thread) → x ≡ thread_opening a → AM (main_by v k room b u x) (main_by z k room b t x)) (other u t e c) (other u t e c) (z.item t) c (thread_opening (seen z t)) refl);
    stays = λ t c. by_bars (λ a. (x : Thread) → x ≡ thread_opening a → Stays Y (main_by z k room b t x)) (calm t c) (calm t c) (z.item t) c (thread_opening (seen z t)) refl;
  }
    where
      go : (u : One) (t : Two) → v.item u ≡ z.item t → clear (z.item t) ≡ true → (x : Thread) → AM (main_by v k room b u x) (main_by z k room b t x)
      go u t e c th.Static = when_alike Y v.threads z.threads (static_threads v b) (static_threads z b) like.threads (static_same b)
      go u t e c th.Type = threads_same k room b u t e c
      go u t e c th.Other = (stated_by_same k room b).moves u t e c

      other : (u : One) (t : Two) → v.item u ≡ z.item t → bars (z.item t) ≡ true → (x : Thread) → x ≡ th.Other → AM (main_by v k room b u x) (main_by z k room b t x)
      other u t e c th.Other d = (stated_by_same k room b).barred u t e c
      other u t e c th.Static d = absurd cc
      other u t e c th.Type d = absurd cc

      calm : (t : Two) → bars (z.item t) ≡ true → (x : Thread) → x ≡ th.Other → Stays Y (main_by z k room b t x)
      calm t c th.Other e = (stated_by_same k room b).stays t c
      calm t c th.Static e = absurd cc
      calm t c th.Type e = absurd cc

  body_by_same : (k : Kind) (room : ℕ) (b : Tall Body) → AMs (body_by v k room b) (body_by z k room b)
  body_by_same k room b = go (is_main k)
    where
      go : (m : Bool) → AMs (λ u. if m then main_by v k room b u (thread_opening (seen v u)) else stated_by v k room b u) (λ t. if m then main_by z k room b t (thread_opening (seen z t)) else stated_by z k room b t)
      go true = main_same k room b
      go false = stated_by_same k room b

  pub body_same : (k : Kind) (room : ℕ) → A (body v k room) (body z k room)
  body_same k room = loop_alike Y (body_by v k room) (body_by z k room) (body_by_same k room) empty_body
