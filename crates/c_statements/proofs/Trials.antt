-- Every test of an `if` that is begun can be completed.
use Rattle.std.proofs.Common.{◌≡◌, ℕ, zero, suc, ◌-◌, max, ◌<◌, ◌≤◌, Bool, true, List, [], ◌∷◌, ◌++◌, refl, sym, subst, ◌∙◌, inr, arith}
use Rattle.std.proofs.lemmas.List.{append_cancel_right}
use Rattle.c_lexer.specs.declared.token.Sign.TheVariants as signs
use Rattle.c_tree.specs.declared.expr.Op.{Op}
use Rattle.c_tree.specs.Expressions as tree
use Rattle.c_tree.specs.Expressions.{Expr, Place}
use Rattle.c_grammar.specs.declared.words.FixedWord.TheVariants as w
use Rattle.c_grammar.specs.Items.{What, spelling}
use Rattle.c_grammar.specs.Levels.{Tall, over}
use Rattle.c_grammar.specs.Statements.{Choice}
use Rattle.c_grammar.specs.Expressions.{joined, loosest}
use Rattle.parse_laws.specs.declared.fault.Fault.TheVariants.{Syntax}
use Rattle.parse_laws.specs.Parser.{Got, Failed, Parser, and_then, ◌>>=◌, pure, Go, deeper}
use Rattle.parse_laws.specs.Operators.{climb, chain}
use Rattle.parse_laws.proofs.Operators as ops
use Rattle.parse_laws.proofs.Viable.{Viable, Follows, ViableMove, sinks, goes, Takes, reads_of, pure_viable, bind_viable, commit_local, fallback_viable, choice_follows, lower_viable, stop_move, go_move, when_move, must_viable, must_follows}
use Rattle.parse_laws.proofs.After.{Completes, alike_completes, then_completes}
use Rattle.parse_laws.proofs.Completes.{after_viable, pure_behind, lower_completes}
use Rattle.parse_laws.proofs.Chains.{climb_completes}
use Rattle.c_expressions.specs.Words.{Head, head}
use Rattle.c_expressions.specs.Parsers.{Sight, seen, is, fits, close, expression, negation, expressions_of, lower_in}
use Rattle.c_expressions.proofs.Shorter.{shrinks}
use Rattle.c_expressions.proofs.Words.{SeenAs, Words}
use Rattle.c_expressions.proofs.Closers.{closes, closer_no_operator, closer_no_bracket, fit, low, fits_of, fits_le, is_itself, close_takes, close_after}
use Rattle.c_expressions.proofs.Readings.{number, operand_at, right_closes, number_read, chain_live, name_alone, quiet_calm}
use Rattle.c_expressions.proofs.Operands.{lower_fits, low_over, levels}
use Rattle.c_expressions.proofs.Parts.{expression_completes, expression_after, address_viable}
use Rattle.c_statements.specs.declared.word.Question.{Question}
use Rattle.c_statements.specs.declared.word.Question.TheVariants as question
use Rattle.c_statements.specs.declared.word.Comparison.{Comparison}
use Rattle.c_statements.specs.declared.word.Comparison.TheVariants as comparison
use Rattle.c_statements.specs.Words.{asks, behind_try, is_try, is_zero}
use Rattle.c_statements.specs.Parsers.{as_value, as_busy, valued, tried, zero_behind, compared_by, compared, uncompared, plain, negated, behind_not, two_deeper, asked_by, asked, trial}
use Rattle.c_statements.proofs.Shorter.{valued_takes}

-- each token
abbrev pub always : {Token : Type 0} → Token → Bool
always u = true

-- ---- moves

module _ {Token A : Type 0} {ends : Token → Bool} where
  -- a token that opens a level, on which a part stands that is viable where there is one
  pub level_move : {p : ℕ → Parser Token A} → ((r : ℕ) → 0 < r → Viable ends r p) → (r : ℕ) → ViableMove ends r (λ s. deeper (λ _. p s) s)
  level_move {p = p} h zero = sinks refl 1 (omega arith) (p 1) refl ((h 1 (omega arith)).live 1 (omega arith))
  level_move {p = p} h (suc m) = goes p same (h (suc m) (omega arith))
    where
      same : (s : ℕ) → suc m ≤ s → deeper (λ _. p s) s ≡ Go (p s)
      same zero le = absurd (omega arith)
      same (suc s) le = refl

  -- and one that opens two
  two_move : {p : ℕ → Parser Token A} → ((r : ℕ) → 1 < r → Viable ends r p) → (r : ℕ) → ViableMove ends r (λ s. two_deeper (p s) s)
  two_move {p = p} h zero = sinks refl 2 (omega arith) (p 2) refl ((h 2 (omega arith)).live 2 (omega arith))
  two_move {p = p} h (suc zero) = sinks refl 2 (omega arith) (p 2) refl ((h 2 (omega arith)).live 2 (omega arith))
  two_move {p = p} h (suc (suc m)) = goes p same (h (suc (suc m)) (omega arith))
    where
      same : (s : ℕ) → suc (suc m) ≤ s → two_deeper (p s) s ≡ Go (p s)
      same zero le = absurd (omega arith)
      same (suc zero) le = absurd (omega arith)
      same (suc (suc s)) le = refl

-- ---- tokens

try_head : (a : What) → asks a ≡ question.TryLock → head a ≡ Head.Word (spelling w.TryLock)
try_head (What.Fixed w.TryLock) e = refl
try_head (What.Sign signs.Not) e = absurd cc
try_head _ e = absurd cc

not_head : (a : What) → asks a ≡ question.Not → head a ≡ Head.Not
not_head (What.Fixed w.TryLock) e = absurd cc
not_head (What.Sign signs.Not) e = refl
not_head _ e = absurd cc

name_head : (a : What) → is_try a ≡ true → head a ≡ Head.Word (spelling w.TryLock)
name_head (What.Fixed w.TryLock) e = refl
name_head _ e = absurd cc

module _ {Token : Type 0} (v : Sight Token) (words : Words v) (nought : SeenAs v (λ a. a ≡ What.Number 0)) where
  -- ---- expressions, behind tokens of them

  closed_viable : {ends : Token → Bool} {r : ℕ} {q : ℕ → Parser Token (Tall Expr)} → Completes fit (closes v) r q → Viable ends r (λ s. q s >>= λ e. close v signs.RightParenthesis (fits s e.levels) (pure (as_value e)))
  closed_viable c = after_viable c (close_after v words signs.RightParenthesis (right_closes v words) (λ e. pure_viable))

  valued_viable : {ends : Token → Bool} (r : ℕ) → 0 < r → Viable ends r (λ s. valued v s)
  valued_viable r lt = closed_viable (expression_completes v words r lt)

  -- behind a name
  name_begun : {ends : Token → Bool} (u : Token) (n : List ℕ) → head (seen v u) ≡ Head.Word n → (r : ℕ) → 0 < r → Viable ends r (λ s ts. valued v s (u ∷ ts))
  name_begun u n e r lt = closed_viable {q = λ s ts. expression v s (u ∷ ts)} (expression_after v words u n e r lt)

  joined_fits : (s : ℕ) (o : Op) (a b : Tall Expr) → a.levels - 1 ≤ s → low s b ≡ true → low (suc s) (joined o a b) ≡ true
  joined_fits s o a b le e = let l = fits_le (suc s) b.levels e in fits_of (suc (suc s)) (suc (max a.levels b.levels)) (omega (arith, l, le))

  not_operand : (r : ℕ) {q : ℕ → Parser Token (Tall Expr)} → Completes fit (closes v) (suc r) q → Completes low (closes v) (suc r) (λ s. q s >>= λ e. pure (negation e))
  not_operand r c = then_completes {small = fit} c (pure_behind (λ u e. e) made)
    where
      made : (s : ℕ) → suc r ≤ s → (a : Tall Expr) → fit s a ≡ true → low s (negation a) ≡ true
      made zero le a d = absurd (omega arith)
      made (suc s) le a d = low_over (suc s) a (tree.Not a.tree) d

  not_climbs : (r : ℕ) {q : ℕ → Parser Token (Tall Expr)} → Completes fit (closes v) (suc r) q → Completes low (closes v) (suc r) (λ s. (q s >>= λ e. pure (negation e)) >>= climb (expressions_of v) s (lower_in v s) loosest)
  not_climbs r c = climb_completes (expressions_of v) low (closes v) (λ j u q. rw (closer_no_operator v u q) refl) (shrinks v) joined_fits (chain_live v words) (λ m e. (levels v words m).whole) loosest (not_operand r c)

  -- what `!` may stand before, and of that what may follow a name
  below_not : (r : ℕ) → Completes fit (closes v) (suc r) (λ s z. lower_in v s 0 z)
  below_not r = lower_fits v (suc r) (λ m e. levels v words m) (omega arith) 0

  below_word : (t : Token) (n : List ℕ) → head (seen v t) ≡ Head.Word n → (r : ℕ) → Completes fit (closes v) (suc r) (λ s z. lower_in v s 0 (t ∷ z))
  below_word t n d r = lower_completes {small = low} {p = λ s z. chain (expressions_of v) s 0 (t ∷ z)} (λ s z. refl) (λ s a. refl) ((levels v words r).behind t n d 0)

  number_valued : (s : ℕ) → 0 < s → (z : List Token) → valued v s (words.number ∷ words.sign signs.RightParenthesis ∷ z) ≡ Got (as_value (number v words)) z
  number_valued zero lt z = absurd (omega arith)
  number_valued (suc s) lt z =
      let one : fits (suc s) 1 ≡ true = fits_of (suc s) 1 (omega arith) in
      rw (number_read v words s loosest (words.sign signs.RightParenthesis ∷ z) (right_closes v words))
      (close_takes v signs.RightParenthesis (fits (suc s) 1) (pure (as_value (number v words))) z (words.sign signs.RightParenthesis) (is_itself v words signs.RightParenthesis) one)

  module _ (u : Token) (e : head (seen v u) ≡ Head.Not) where
    not_chain : (s : ℕ) → 0 < s → (z : List Token) → and_then (and_then (lower_in v s 0 z) (λ e. pure (negation e))) (climb (expressions_of v) s (lower_in v s) loosest) ≡ chain (expressions_of v) s loosest (u ∷ z)
    not_chain zero lt z = absurd (omega arith)
    not_chain (suc s) lt z = sym (ops.chain_is (expressions_of v) (suc s) loosest (u ∷ z) ∙ rw (operand_at v (suc s) (lower_in v (suc s)) u z Head.Not e) refl)

    -- behind `!` and some tokens more
    not_begun : {ends : Token → Bool} (f : List Token → List Token) (r : ℕ) → Completes fit (closes v) (suc r) (λ s z. lower_in v s 0 (f z)) → Viable ends (suc (suc r)) (λ s z. valued v s (u ∷ f z))
    not_begun f r c =
        closed_viable {q = λ s z. expression v s (u ∷ f z)}
        (lower_completes {small = low} {p = λ s z. chain (expressions_of v) s loosest (u ∷ f z)} (λ s z. refl) (λ s a. refl)
        (alike_completes (λ s le z. not_chain s (omega (arith, le)) (f z)) (not_climbs r {q = λ s z. lower_in v s 0 (f z)} c)))

    not_valued : (s : ℕ) → 1 < s → (z : List Token) → valued v s (u ∷ words.number ∷ words.sign signs.RightParenthesis ∷ z) ≡ Got (as_value (negation (number v words))) z
    not_valued zero lt z = absurd (omega arith)
    not_valued (suc zero) lt z = absurd (omega arith)
    not_valued (suc (suc s)) lt z =
        let rest : List Token = words.sign signs.RightParenthesis ∷ z in
        let two : fits (suc (suc s)) 2 ≡ true = fits_of (suc (suc s)) 2 (omega arith) in
        let read : chain (expressions_of v) (suc s) loosest (u ∷ words.number ∷ rest) ≡ Got (negation (number v words)) rest =
        ops.operand_reads (expressions_of v) (suc s) loosest (u ∷ words.number ∷ rest) rest (negation (number v words))
        (operand_at v (suc s) (lower_in v (suc s)) u (words.number ∷ rest) Head.Not e ∙ rw (number_read v words s 0 rest (right_closes v words)) refl) (quiet_calm v loosest rest (right_closes v words)) in
        rw read (close_takes v signs.RightParenthesis (fits (suc (suc s)) 2) (pure (as_value (negation (number v words)))) z (words.sign signs.RightParenthesis) (is_itself v words signs.RightParenthesis) two)

  -- ---- trylocks

  tried_viable : {ends : Token → Bool} (r : ℕ) → Viable ends r (λ s. tried v s)
  unfolding tried
  tried_viable r =
      bind_viable {before = closes v} (address_viable v words (closer_no_bracket v) r)
      (λ p. must_follows (is v signs.RightParenthesis) (words.sign signs.RightParenthesis) (is_itself v words signs.RightParenthesis) (right_closes v words) pure_viable)

  tried_one : {ends : Token → Bool} (r : ℕ) → 0 < r → Viable ends r (λ s. tried v (s - 1))
  tried_one zero lt = absurd (omega arith)
  tried_one (suc m) lt = lower_viable {p = λ s. tried v s} (λ s z. let p : suc s - 1 ≡ s = omega arith in rw p refl) (tried_viable m)

  tried_two : {ends : Token → Bool} (r : ℕ) → 1 < r → Viable ends r (λ s. tried v (s - 2))
  tried_two zero lt = absurd (omega arith)
  tried_two (suc zero) lt = absurd (omega arith)
  tried_two (suc (suc m)) lt = lower_viable {p = λ s. tried v (s - 1)} (λ s z. let p : suc s - 2 ≡ s - 1 = omega arith in rw p refl) (tried_one (suc m) (omega arith))

  zero_viable : {ends : Token → Bool} {r : ℕ} (x : Tall Choice) → Viable ends r (λ s. zero_behind v x)
  zero_viable x = must_viable (λ u. is_zero (seen v u)) nought.0 (rw nought.1 refl) (must_viable (is v signs.RightParenthesis) (words.sign signs.RightParenthesis) (is_itself v words signs.RightParenthesis) pure_viable)

  compared_follows : {ends : Token → Bool} {r : ℕ} (p : Tall Place) → Follows always ends r (λ s. compared v p)
  unfolding compared
  compared_follows {ends} {r} p = choice_follows (λ u. go (behind_try (seen v u))) (words.sign signs.RightParenthesis) refl (λ s le. rw (words.sign_is signs.RightParenthesis) refl) (pure_viable {a = as_busy p})
    where
      go : (x : Comparison) → ViableMove ends r (λ s. compared_by v p x)
      go comparison.End = go_move pure_viable
      go comparison.Equal = go_move (zero_viable _)
      go comparison.NotEqual = go_move (zero_viable _)
      go comparison.Other = stop_move

  uncompared_follows : {ends : Token → Bool} {r : ℕ} (p : Tall Place) → Follows always ends r (λ s. uncompared v p)
  uncompared_follows p = must_follows (is v signs.RightParenthesis) (words.sign signs.RightParenthesis) (is_itself v words signs.RightParenthesis) refl pure_viable

  -- an expression of which tokens were read takes more
  none_left : (r : ℕ) (u : Token) → Takes (λ ts. valued v r (u ∷ ts))
  none_left r u ts a d = let le = valued_takes v r (u ∷ ts) a ts d in absurd (omega (arith, le))

  -- behind `!` and a name, too
  module _ (u t : Token) (n : List ℕ) (e : head (seen v u) ≡ Head.Not) (d : head (seen v t) ≡ Head.Word n) where
    not_closed : (s : ℕ) → 1 < s → valued v s (u ∷ t ∷ []) ≡ Failed Syntax []
    not_closed zero lt = absurd (omega arith)
    not_closed (suc zero) lt = absurd (omega arith)
    not_closed (suc (suc s)) lt =
        let name : Tall Expr = over (tree.Name n) 0 in
        let inner : chain (expressions_of v) s 0 (t ∷ []) ≡ Got name [] =
        ops.operand_reads (expressions_of v) s 0 (t ∷ []) [] name (operand_at v s (lower_in v s) t [] (Head.Word n) d ∙ name_alone v s (lower_in v s) n [] tt) (quiet_calm v 0 [] tt) in
        let read : chain (expressions_of v) (suc s) loosest (u ∷ t ∷ []) ≡ Got (negation name) [] =
        ops.operand_reads (expressions_of v) (suc s) loosest (u ∷ t ∷ []) [] (negation name) (operand_at v (suc s) (lower_in v (suc s)) u (t ∷ []) Head.Not e ∙ rw inner refl) (quiet_calm v loosest [] tt) in
        rw read refl

    none_left_of_two : (r : ℕ) → 1 < r → Takes (λ ts. valued v r (u ∷ t ∷ ts))
    none_left_of_two zero lt ts a q = absurd (omega arith)
    none_left_of_two (suc zero) lt ts a q = absurd (omega arith)
    none_left_of_two (suc (suc m)) lt ts a q =
        let x = reads_of (not_begun u e {ends = always} (λ z. z) m (below_not m)).local (t ∷ ts) a ts q in
        let front : t ∷ [] ≡ x.front = append_cancel_right (t ∷ []) x.front ts x.parts in
        let read : valued v (suc (suc m)) (u ∷ (x.front ++ [])) ≡ Got a [] = x.again (suc (suc m)) (omega arith) [] (inr tt) in
        let one : valued v (suc (suc m)) (u ∷ t ∷ []) ≡ Failed Syntax [] = not_closed (suc (suc m)) lt in
        let two : valued v (suc (suc m)) (u ∷ t ∷ []) ≡ Got a [] = subst (λ (w : List Token). valued v (suc (suc m)) (u ∷ (w ++ [])) ≡ Got a []) (sym front) read in
        cc

    negated_viable : {ends : Token → Bool} (r : ℕ) → 1 < r → Viable ends r (λ s. negated v s u t)
    unfolding negated
    negated_viable zero lt = absurd (omega arith)
    negated_viable (suc zero) lt = absurd (omega arith)
    negated_viable (suc (suc m)) lt =
        let called = bind_viable {before = always} (tried_two (suc (suc m)) lt) uncompared_follows in
        fallback_viable (λ x. when_move (is v signs.LeftParenthesis x) (λ b. called)) (none_left_of_two (suc (suc m)) lt) (not_begun u e (λ z. t ∷ z) m (below_word t n d m)).local (words.sign signs.LeftParenthesis)
        (λ s le. rw (is_itself v words signs.LeftParenthesis) refl) called

  plain_viable : {ends : Token → Bool} (u : Token) (n : List ℕ) → head (seen v u) ≡ Head.Word n → (r : ℕ) → 0 < r → Viable ends r (λ s. plain v s u)
  unfolding plain
  plain_viable u n e r lt =
      let called = bind_viable {before = always} (tried_one r lt) compared_follows in
      fallback_viable (λ t. when_move (is v signs.LeftParenthesis t) (λ b. called)) (none_left r u) (name_begun u n e r lt).local (words.sign signs.LeftParenthesis) (λ s le. rw (is_itself v words signs.LeftParenthesis) refl) called

  behind_not_viable : {ends : Token → Bool} (u : Token) → head (seen v u) ≡ Head.Not → (r : ℕ) → 1 < r → Viable ends r (λ s. behind_not v s u)
  unfolding behind_not
  behind_not_viable u e zero lt = absurd (omega arith)
  behind_not_viable u e (suc zero) lt = absurd (omega arith)
  behind_not_viable u e (suc (suc m)) lt = record {
    local = commit_local (λ t. when_move (is_try (seen v t)) (λ b. negated_viable u t (spelling w.TryLock) e (name_head (seen v t) b) (suc (suc m)) lt)) (λ ts a d. absurd (none_left (suc (suc m)) u ts a d)) (not_begun u e (λ z. z) m (below_not m)).local;
    live = λ s le. record { word = words.number ∷ words.sign signs.RightParenthesis ∷ []; value = as_value (negation (number v words)); reads = λ z q. rw words.number_is (not_valued u e s (omega (arith, le)) z) };
  }

  asked_viable : {ends : Token → Bool} (r : ℕ) → 0 < r → Viable ends r (λ s. asked v s)
  unfolding asked
  asked_viable {ends} r lt = record {
    local = commit_local (λ u. go u (asks (seen v u)) refl) (λ ts a d. absurd (none ts a d)) (valued_viable r lt).local;
    live = λ s le. record { word = words.number ∷ words.sign signs.RightParenthesis ∷ []; value = as_value (number v words); reads = λ z q. rw words.number_is (number_valued s (omega (arith, lt, le)) z) };
  }
    where
      none : Takes (valued v r)
      none ts a d = let le = valued_takes v r ts a ts d in absurd (omega (arith, le))

      go : (u : Token) (x : Question) → asks (seen v u) ≡ x → ViableMove ends r (λ s. asked_by v s u x)
      go u question.TryLock d = level_move (plain_viable u (spelling w.TryLock) (try_head (seen v u) d)) r
      go u question.Not d = two_move (behind_not_viable u (not_head (seen v u) d)) r
      go u question.Expression d = stop_move

  pub trial_viable : {ends : Token → Bool} (r : ℕ) → 0 < r → Viable ends r (λ s. trial v s)
  unfolding trial
  trial_viable r lt = must_viable (is v signs.LeftParenthesis) (words.sign signs.LeftParenthesis) (is_itself v words signs.LeftParenthesis) (asked_viable r lt)
