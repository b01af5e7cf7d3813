-- What is spelled is read: statements, their parts and their arms.
use Rattle.std.proofs.Common.{◌≡◌, ℕ, zero, suc, ◌-◌, ◌≤◌, Bool, true, false, cond, List, [], ◌∷◌, map, Some, refl, sym, ap, subst, ◌∙◌, inl, inr, ◌⊎◌, arith}
use Rattle.c_lexer.specs.declared.token.Sign.{Sign}
use Rattle.c_lexer.specs.declared.token.Sign.TheVariants as s
use Rattle.c_tree.specs.declared.program.Kind.{Kind}
use Rattle.c_tree.specs.Expressions as tree
use Rattle.c_tree.specs.Expressions.{Expr, Place}
use Rattle.c_tree.specs.Lined as lined
use Rattle.c_tree.specs.Lined.{Stmt}
use Rattle.c_grammar.specs.declared.words.FixedWord.TheVariants as w
use Rattle.c_grammar.specs.Items.{What, Item, at, sign, fixed, name_of}
use Rattle.c_grammar.specs.Levels.{Tall, tall, nothing, alone, followed}
use Rattle.c_grammar.specs.Expressions.{SpellsWhole, SpellsAddress}
use Rattle.c_grammar.specs.Statements as g
use Rattle.c_grammar.specs.Statements.{SpellsFirst, SpellsTest, SpellsLast, Choice, SpellsTry, SpellsChoice, SpellsStatement, SpellsArm, SpellsList, chosen, repeated, counted}
use Rattle.c_grammar.specs.Heads.{begins_expression}
use Rattle.c_grammar.proofs.Beginnings.{expression_begins}
use Rattle.parse_laws.specs.Parser.{Got, ◌>>=◌, pure, refuse, Move, Stop, Go, moved, commit, when, must, many, one_more}
use Rattle.parse_laws.proofs.Loops.{many_reads}
use Rattle.parse_laws.proofs.Finds.{Reaches, Halts, pure_finds, commit_finds, must_finds, other_finds, none_finds, bind_finds, loop_finds, reaches_itself}
use Rattle.c_expressions.specs.Honest.{Honest}
use Rattle.c_expressions.specs.Words.{same_sign}
use Rattle.c_expressions.specs.Parsers.{Sight, seen, is, named, fits, close, expression, address}
use Rattle.c_expressions.proofs.FoundParts.{address_finds}
use Rattle.c_expressions.proofs.Found.{F, is_at, close_finds, sign_finds, fits_true, expression_tall, expression_finds}
use Rattle.c_simple.specs.Parsers.{line, line_in, step_by, simple_by}
use Rattle.c_simple.proofs.Found.{simple_finds, step_finds}
use Rattle.c_simple.proofs.Begins.{simple_stops, step_stops}
use Rattle.c_statements.specs.declared.word.Opening.{Opening}
use Rattle.c_statements.specs.declared.word.Opening.TheVariants as o
use Rattle.c_statements.specs.declared.word.Question.{Question}
use Rattle.c_statements.specs.declared.word.Question.TheVariants as question
use Rattle.c_statements.specs.declared.word.Start.{Start}
use Rattle.c_statements.specs.declared.word.Start.TheVariants as f
use Rattle.c_statements.specs.Words.{statement_opening, asks, behind_try, is_try, is_zero, first_start}
use Rattle.c_statements.specs.Parsers.{tested, condition, as_value, as_busy, as_taken, as_negated, valued, tried, zero_behind, compared_by, compared, uncompared, plain, negated, behind_not, asked_by, asked, trial, initial_value, declared, first_by, first, given_test, middle, last_by, last, block, arm_by, arm, second_arm, else_by, else_arm, choice, repetition, counted_arm, counted_parts, counting, statement_by}
use Rattle.c_statements.proofs.Shorter.{statement_shrinks}
use Rattle.c_statements.proofs.Openings.{empty_is, if_is, while_is, for_is, simple_is, statement_stops}
use Rattle.c_statements.proofs.Spelled.{asks_try_at, asks_not_at, try_at, sign_at}
use Rattle.c_statements.proofs.Tokens.{no_open, word_open, not_word_open, not_tall, nothing_steps, int_steps, parenthesis_steps, other_opening, brace_begins, expression_head, NoElse, Allowed, allowed, statement_no_else, simple_tall}

-- Two choices answer alike where each token of the second either does what it does in the first, or stops.
module _ {Token Item A : Type 0} (see : Token → Item) where
  pub agrees : (k l : Token → Move Token A) → ((u : Token) → (l u ≡ Stop) ⊎ (k u ≡ l u)) → (before after : List Item) (a : A) → Reaches see (commit l refuse) (pure a) before after → Reaches see (commit k refuse) (pure a) before after
  agrees k l h before after a x ts e = let z = x ts e in (z.0, z.1, go ts z.0 z.2)
    where
      go : (ts rest : List Token) → commit l refuse ts ≡ Got a rest → commit k refuse ts ≡ Got a rest
      go [] rest d = d
      go (u ∷ ts) rest d = here (h u)
        where
          here : (l u ≡ Stop) ⊎ (k u ≡ l u) → moved (k u) refuse u ts ≡ Got a rest
          here (inl q) = absurd (stopped (subst (λ (m : Move Token A). moved m refuse u ts ≡ Got a rest) q d))
            where
              stopped : moved Stop refuse u ts ≡ Got a rest → ⊥
              stopped e = cc
          here (inr q) = subst (λ (m : Move Token A). moved m refuse u ts ≡ Got a rest) (sym q) d

module _ {Token : Type 0} (v : Sight Token) (honest : Honest v) where
  line_is : (u : Token) (l : ℕ) (a : What) → v.item u ≡ at l a → line v u ≡ l
  line_is u l a e = ap line_in e

  abbrev done : {A : Type 0} → (after : List Item) (a : A) → F v (pure a) after after a
  done after a = pure_finds v.item after a

  -- ---- what `while` tests

  ended_finds : {A : Type 0} (x : Sign) (make : Tall Expr → A) (r n : ℕ) (ts after : List Item) (e : Tall Expr) → F v (expression v r) ts (sign n x ∷ after) e → e.levels ≤ r
      → F v (expression v r >>= λ e. close v x (fits r e.levels) (pure (make e))) ts after (make e)
  ended_finds x make r n ts after e h le =
      bind_finds v.item (expression v r) (λ e. close v x (fits r e.levels) (pure (make e))) ts (sign n x ∷ after) after e (make e) h
      (close_finds v x (fits r e.levels) (pure (make e)) n after after (make e) (fits_true r e.levels le) (done after (make e)))

  condition_finds : (m n r : ℕ) {ts mid : List Item} {e : Tall Expr} → SpellsWhole ts (sign n s.RightParenthesis ∷ mid) e → e.levels ≤ r → F v (condition v r) (sign m s.LeftParenthesis ∷ ts) mid e
  unfolding condition
  condition_finds m n r {ts} {mid} {e} d le = sign_finds v s.LeftParenthesis (tested v r) m ts mid e (ended_finds s.RightParenthesis (λ e. e) r n ts mid e (expression_finds v honest d refl r le) le)

  -- ---- what `if` tests

  valued_finds : (n r : ℕ) {ts mid : List Item} {e : Tall Expr} → SpellsWhole ts (sign n s.RightParenthesis ∷ mid) e → e.levels ≤ r → F v (valued v r) ts mid (as_value e)
  valued_finds n r {ts} {mid} {e} d le = ended_finds s.RightParenthesis as_value r n ts mid e (expression_finds v honest d refl r le) le

  -- a derivation over tokens that are seen so
  told : {n : ℕ} {mid : List Item} {e : Tall Expr} {a b : List Item} → a ≡ b → SpellsWhole b (sign n s.RightParenthesis ∷ mid) e → SpellsWhole a (sign n s.RightParenthesis ∷ mid) e
  told {n} {mid} {e} q d = subst (λ (ts : List Item). SpellsWhole ts (sign n s.RightParenthesis ∷ mid) e) (sym q) d

  module _ (n r : ℕ) (mid : List Item) (e : Tall Expr) (le : e.levels ≤ r) where
    plain_value : (u : Token) (zs : List Token) → asks (seen v u) ≡ question.TryLock → SpellsWhole (map v.item (u ∷ zs)) (sign n s.RightParenthesis ∷ mid) e → plain v r u zs ≡ valued v r (u ∷ zs)
    unfolding plain
    plain_value u [] a d = refl
    plain_value u (t ∷ zs) a d = go (is v s.LeftParenthesis t) refl
      where
        go : (b : Bool) → is v s.LeftParenthesis t ≡ b → moved (when b (tried v (r - 1) >>= compared v)) (λ ts. valued v r (u ∷ ts)) t zs ≡ valued v r (u ∷ t ∷ zs)
        go false c = refl
        go true c = absurd (no_open (word_open (told (ends (asks_try_at (v.item u) a) (sign_at s.LeftParenthesis (v.item t) c)) d)))
          where
            ends : v.item u ≡ fixed (line v u) w.TryLock → v.item t ≡ sign (line v t) s.LeftParenthesis → fixed (line v u) w.TryLock ∷ sign (line v t) s.LeftParenthesis ∷ map v.item zs ≡ v.item u ∷ v.item t ∷ map v.item zs
            ends p q = rw (p, q) refl

    negated_value : (u t : Token) (zs : List Token) → asks (seen v u) ≡ question.Not → is_try (seen v t) ≡ true → SpellsWhole (map v.item (u ∷ t ∷ zs)) (sign n s.RightParenthesis ∷ mid) e → negated v r u t zs ≡ valued v r (u ∷ t ∷ zs)
    unfolding negated
    negated_value u t [] a b d = refl
    negated_value u t (x ∷ zs) a b d = go (is v s.LeftParenthesis x) refl
      where
        go : (y : Bool) → is v s.LeftParenthesis x ≡ y → moved (when y (tried v (r - 2) >>= uncompared v)) (λ ts. valued v r (u ∷ t ∷ ts)) x zs ≡ valued v r (u ∷ t ∷ x ∷ zs)
        go false c = refl
        go true c = absurd (no_open (not_word_open (told (ends (asks_not_at (v.item u) a) (try_at (v.item t) b) (sign_at s.LeftParenthesis (v.item x) c)) d)))
          where
            ends : v.item u ≡ sign (line v u) s.Not → v.item t ≡ fixed (line v t) w.TryLock → v.item x ≡ sign (line v x) s.LeftParenthesis
                → sign (line v u) s.Not ∷ fixed (line v t) w.TryLock ∷ sign (line v x) s.LeftParenthesis ∷ map v.item zs ≡ v.item u ∷ v.item t ∷ v.item x ∷ map v.item zs
            ends p q o = rw (p, q, o) refl

    not_value : (u : Token) (zs : List Token) → asks (seen v u) ≡ question.Not → SpellsWhole (map v.item (u ∷ zs)) (sign n s.RightParenthesis ∷ mid) e → behind_not v r u zs ≡ valued v r (u ∷ zs)
    unfolding behind_not
    not_value u [] a d = refl
    not_value u (t ∷ zs) a d = go (is_try (seen v t)) refl
      where
        go : (b : Bool) → is_try (seen v t) ≡ b → moved (when b (negated v r u t)) (λ ts. valued v r (u ∷ ts)) t zs ≡ valued v r (u ∷ t ∷ zs)
        go false c = refl
        go true c = negated_value u t zs a c d

    -- an expression is read as one
    asked_value : (zs : List Token) → SpellsWhole (map v.item zs) (sign n s.RightParenthesis ∷ mid) e → asked v r zs ≡ valued v r zs
    unfolding asked
    asked_value [] d = refl
    asked_value (u ∷ zs) d = go r le (asks (seen v u)) refl (λ a. plain_value u zs a d) (λ a. not_value u zs a d)
      where
        not_low : asks (seen v u) ≡ question.Not → 2 ≤ e.levels
        not_low a = not_tall (told (ends (asks_not_at (v.item u) a)) d)
          where
            ends : v.item u ≡ sign (line v u) s.Not → sign (line v u) s.Not ∷ map v.item zs ≡ v.item u ∷ map v.item zs
            ends p = rw p refl

        go : (r : ℕ) → e.levels ≤ r → (x : Question) → asks (seen v u) ≡ x → (asks (seen v u) ≡ question.TryLock → plain v r u zs ≡ valued v r (u ∷ zs)) → (asks (seen v u) ≡ question.Not → behind_not v r u zs ≡ valued v r (u ∷ zs))
            → moved (asked_by v r u x) (valued v r) u zs ≡ valued v r (u ∷ zs)
        go r le question.Expression a h i = refl
        go zero le question.TryLock a h i = let up = expression_tall d in absurd (omega (arith, le, up))
        go (suc m) le question.TryLock a h i = h a
        go zero le question.Not a h i = let up = not_low a in absurd (omega (arith, le, up))
        go (suc zero) le question.Not a h i = let up = not_low a in absurd (omega (arith, le, up))
        go (suc (suc m)) le question.Not a h i = i a

  value_finds : (n r : ℕ) {ts mid : List Item} {e : Tall Expr} → SpellsWhole ts (sign n s.RightParenthesis ∷ mid) e → e.levels ≤ r → F v (asked v r) ts mid (as_value e)
  value_finds n r {ts} {mid} {e} d le zs q = let y = valued_finds n r d le zs q in (y.0, y.1, asked_value n r mid e le zs (told q d) ∙ y.2)

  tried_finds : (n r : ℕ) {ts mid : List Item} {p : Tall Place} → SpellsAddress ts (sign n s.RightParenthesis ∷ mid) p → p.levels ≤ r → F v (tried v r) ts mid p
  unfolding tried
  tried_finds n r {ts} {mid} {p} d le =
      bind_finds v.item (address v r) (λ p. must (is v s.RightParenthesis) (pure p)) ts (sign n s.RightParenthesis ∷ mid) mid p p (address_finds v honest d refl r le) (sign_finds v s.RightParenthesis (pure p) n mid mid p (done mid p))

  -- what stands behind a trylock
  abbrev ways : Tall Place → Token → Move Token (Tall Choice)
  ways p u = compared_by v p (behind_try (seen v u))

  end_finds : (n : ℕ) (p : Tall Place) (mid : List Item) → F v (compared v p) (sign n s.RightParenthesis ∷ mid) mid (as_busy p)
  unfolding compared
  end_finds n p mid = commit_finds v.item (ways p) refuse (sign n s.RightParenthesis) mid mid (as_busy p) (λ u q. (pure (as_busy p), rw q refl, done mid (as_busy p)))

  zero_finds : (m n : ℕ) (x : Tall Choice) (mid : List Item) → F v (zero_behind v x) (at m (What.Number 0) ∷ sign n s.RightParenthesis ∷ mid) mid x
  zero_finds m n x mid =
      must_finds v.item (λ u. is_zero (seen v u)) (must (is v s.RightParenthesis) (pure x)) (at m (What.Number 0)) (sign n s.RightParenthesis ∷ mid) mid x (λ u q. rw q refl) (sign_finds v s.RightParenthesis (pure x) n mid mid x (done mid x))

  equal_finds : (l m n : ℕ) (p : Tall Place) (mid : List Item) → F v (compared v p) (sign l s.Equal ∷ at m (What.Number 0) ∷ sign n s.RightParenthesis ∷ mid) mid (as_taken p)
  unfolding compared
  equal_finds l m n p mid =
      commit_finds v.item (ways p) refuse (sign l s.Equal) (at m (What.Number 0) ∷ sign n s.RightParenthesis ∷ mid) mid (as_taken p) (λ u q. (zero_behind v (as_taken p), rw q refl, zero_finds m n (as_taken p) mid))

  other_finds_zero : (l m n : ℕ) (p : Tall Place) (mid : List Item) → F v (compared v p) (sign l s.NotEqual ∷ at m (What.Number 0) ∷ sign n s.RightParenthesis ∷ mid) mid (as_busy p)
  unfolding compared
  other_finds_zero l m n p mid =
      commit_finds v.item (ways p) refuse (sign l s.NotEqual) (at m (What.Number 0) ∷ sign n s.RightParenthesis ∷ mid) mid (as_busy p) (λ u q. (zero_behind v (as_busy p), rw q refl, zero_finds m n (as_busy p) mid))

  abbrev starting : ℕ → Token → Move Token (Tall Choice)
  starting r u = asked_by v r u (asks (seen v u))

  -- a trylock, and what stands behind it
  plain_finds : (r : ℕ) {ts behind mid : List Item} {p : Tall Place} {x : Tall Choice} → SpellsTry ts behind p → p.levels ≤ r → F v (compared v p) behind mid x → F v (asked v (suc r)) ts mid x
  unfolding asked plain
  plain_finds r {ts} {behind} {mid} {p} {x} (g.try {l = i} {m = j} {n = n} {ts = inside} d) le h =
      commit_finds v.item (starting (suc r)) (valued v (suc r)) (fixed i w.TryLock) (sign j s.LeftParenthesis ∷ inside) mid x (λ u q. (
        plain v (suc r) u,
        rw q refl,
        commit_finds v.item (λ t. when (is v s.LeftParenthesis t) (tried v (suc r - 1) >>= compared v)) (λ ts. valued v (suc r) (u ∷ ts)) (sign j s.LeftParenthesis) inside mid x (λ t o. (
          tried v (suc r - 1) >>= compared v,
          rw (is_at v s.LeftParenthesis j t o) refl,
          bind_finds v.item (tried v (suc r - 1)) (compared v) inside behind mid p x (tried_finds n (suc r - 1) d (omega (arith, le))) h,
        )),
      ))

  negated_finds : (k n r : ℕ) {ts mid : List Item} {p : Tall Place} → SpellsTry ts (sign n s.RightParenthesis ∷ mid) p → p.levels ≤ r → F v (asked v (suc (suc r))) (sign k s.Not ∷ ts) mid (as_negated p)
  unfolding asked behind_not negated
  negated_finds k n r {ts} {mid} {p} (g.try {l = i} {m = j} {n = h} {ts = inside} d) le =
      let room : ℕ = suc (suc r) in
      commit_finds v.item (starting room) (valued v room) (sign k s.Not) (fixed i w.TryLock ∷ sign j s.LeftParenthesis ∷ inside) mid (as_negated p) (λ u q. (
        behind_not v room u,
        rw q refl,
        commit_finds v.item (λ t. when (is_try (seen v t)) (negated v room u t)) (λ ts. valued v room (u ∷ ts)) (fixed i w.TryLock) (sign j s.LeftParenthesis ∷ inside) mid (as_negated p) (λ t o. (
          negated v room u t,
          rw o refl,
          commit_finds v.item (λ x. when (is v s.LeftParenthesis x) (tried v (room - 2) >>= uncompared v)) (λ ts. valued v room (u ∷ t ∷ ts)) (sign j s.LeftParenthesis) inside mid (as_negated p) (λ x y. (
            tried v (room - 2) >>= uncompared v,
            rw (is_at v s.LeftParenthesis j x y) refl,
            bind_finds v.item (tried v (room - 2)) (uncompared v) inside (sign n s.RightParenthesis ∷ mid) mid p (as_negated p) (tried_finds h (room - 2) d (omega (arith, le))) (sign_finds v s.RightParenthesis (pure (as_negated p)) n mid mid (as_negated p) (done mid (as_negated p))),
          )),
        )),
      ))

  -- all that an `if` may test
  asked_finds : (n r : ℕ) {ts mid : List Item} {x : Tall Choice} → SpellsChoice ts (sign n s.RightParenthesis ∷ mid) x → x.levels ≤ r → F v (asked v r) ts mid x
  asked_finds n r (g.value d) le = value_finds n r d le
  asked_finds n zero (g.tried d) le = absurd (omega (arith, le))
  asked_finds n (suc r) {mid = mid} (g.tried {p = p} d) le = plain_finds r d (omega (arith, le)) (end_finds n p mid)
  asked_finds n zero (g.not_tried d) le = absurd (omega (arith, le))
  asked_finds n (suc zero) (g.not_tried d) le = absurd (omega (arith, le))
  asked_finds n (suc (suc r)) (g.not_tried {l = l} d) le = negated_finds l n r d (omega (arith, le))
  asked_finds n zero (g.zero d) le = absurd (omega (arith, le))
  asked_finds n (suc r) {mid = mid} (g.zero {l = l} {m = m} {p = p} d) le = plain_finds r d (omega (arith, le)) (equal_finds l m n p mid)
  asked_finds n zero (g.other d) le = absurd (omega (arith, le))
  asked_finds n (suc r) {mid = mid} (g.other {l = l} {m = m} {p = p} d) le = plain_finds r d (omega (arith, le)) (other_finds_zero l m n p mid)

  trial_finds : (m n r : ℕ) {ts mid : List Item} {x : Tall Choice} → SpellsChoice ts (sign n s.RightParenthesis ∷ mid) x → x.levels ≤ r → F v (trial v r) (sign m s.LeftParenthesis ∷ ts) mid x
  unfolding trial
  trial_finds m n r {ts} {mid} {x} d le = sign_finds v s.LeftParenthesis (asked v r) m ts mid x (asked_finds n r d le)

  -- what an `if` tests takes a level
  choice_tall : {ts rest : List Item} {x : Tall Choice} → SpellsChoice ts rest x → 1 ≤ x.levels
  choice_tall (g.value d) = expression_tall d
  choice_tall _ = omega arith

  -- ---- the parts of a `for`, with the sign behind them

  abbrev initial : ℕ → List ℕ → Tall Expr → Tall (List Stmt)
  initial l x e = alone (lined.Declare l x (Some e.tree)) e.levels

  declared_finds : (r m j n : ℕ) (a : What) (x : List ℕ) {ts mid : List Item} {e : Tall Expr} → name_of a ≡ Some x → SpellsWhole ts (sign n s.Semicolon ∷ mid) e → e.levels ≤ r
      → F v (declared v r) (at m a ∷ sign j s.Assign ∷ ts) mid (initial m x e)
  unfolding declared
  declared_finds r m j n a x {ts} {mid} {e} q d le =
      commit_finds v.item (λ u. named v (λ n. must (is v s.Assign) (initial_value v r (line v u) n)) u) refuse (at m a) (sign j s.Assign ∷ ts) mid (initial m x e)
      (λ u i. (
        must (is v s.Assign) (initial_value v r (line v u) x),
        rw (i, q) refl,
        subst (λ (l : ℕ). F v (must (is v s.Assign) (initial_value v r (line v u) x)) (sign j s.Assign ∷ ts) mid (initial l x e)) (line_is u m a i)
            (sign_finds v s.Assign (initial_value v r (line v u) x) j ts mid (initial (line v u) x e) (ended_finds s.Semicolon (initial (line v u) x) r n ts mid e (expression_finds v honest d refl r le) le)),
      ))

  abbrev starts : ℕ → Token → Move Token (Tall (List Stmt))
  starts r u = first_by v r u (first_start (seen v u))

  starts_step : (r : ℕ) (u : Token) → (step_by v s.Semicolon r u ≡ Stop) ⊎ (starts r u ≡ step_by v s.Semicolon r u)
  starts_step r u = go (first_start (seen v u)) refl
    where
      go : (x : Start) → first_start (seen v u) ≡ x → (step_by v s.Semicolon r u ≡ Stop) ⊎ (first_by v r u x ≡ step_by v s.Semicolon r u)
      go f.Nothing e = inl (step_stops v s.Semicolon r u (nothing_steps (seen v u) e))
      go f.Int e = inl (step_stops v s.Semicolon r u (int_steps (seen v u) e))
      go f.Step e = inr refl

  int_starts : (r l : ℕ) (u : Token) → v.item u ≡ fixed l w.Int → 1 ≤ r → starts r u ≡ Go (declared v r)
  int_starts zero l u e le = absurd (omega arith)
  int_starts (suc r) l u e le = rw e refl

  first_finds : (n r : ℕ) {ts mid : List Item} {x : Tall (List Stmt)} → SpellsFirst ts (sign n s.Semicolon ∷ mid) x → x.levels ≤ suc r → F v (first v r) ts mid x
  unfolding first
  first_finds n r {mid = mid} g.none le = commit_finds v.item (starts r) refuse (sign n s.Semicolon) mid mid nothing (λ u e. (pure nothing, rw e refl, done mid nothing))
  first_finds n r {mid = mid} (g.declare {l = l} {m = m} {n = j} {a = a} {x = x} {ts = ts} {e = e} q d) le =
      let tall_e = expression_tall d in
      commit_finds v.item (starts r) refuse (fixed l w.Int) (at m a ∷ sign j s.Assign ∷ ts) mid (initial m x e)
      (λ u i. (declared v r, int_starts r l u i (omega (arith, le, tall_e)), declared_finds r m j n a x q d (omega (arith, le))))
  first_finds n r {ts} {mid} {x} (g.step d) le = agrees v.item (starts r) (step_by v s.Semicolon r) (starts_step r) ts mid x (step_finds v honest s.Semicolon n d refl r le)

  abbrev no_test : Token → Move Token (Tall Expr)
  no_test u = when (is v s.Semicolon u) (pure (tall (tree.Number 1) 0))

  test_halts : (ts : List Item) → begins_expression ts ≡ true → Halts v.item no_test ts
  test_halts [] b = tt
  test_halts (t ∷ ts) b = λ u e. rw (e, expression_head t ts b) refl

  test_finds : (n r : ℕ) {ts mid : List Item} {e : Tall Expr} → SpellsTest ts (sign n s.Semicolon ∷ mid) e → e.levels ≤ r → F v (middle v r) ts mid e
  unfolding middle
  test_finds n r {mid = mid} g.missing le = commit_finds v.item no_test (given_test v r) (sign n s.Semicolon) mid mid (tall (tree.Number 1) 0) (λ u e. (pure (tall (tree.Number 1) 0), rw (is_at v s.Semicolon n u e) refl, done mid (tall (tree.Number 1) 0)))
  test_finds n r {ts} {mid} {e} (g.given d) le = other_finds v.item no_test (given_test v r) ts mid e (test_halts ts (expression_begins d)) (ended_finds s.Semicolon (λ e. e) r n ts mid e (expression_finds v honest d refl r le) le)

  lasts_step : (r : ℕ) (u : Token) → (step_by v s.RightParenthesis r u ≡ Stop) ⊎ (last_by v r u ≡ step_by v s.RightParenthesis r u)
  lasts_step r u = go (is v s.RightParenthesis u) refl
    where
      go : (b : Bool) → is v s.RightParenthesis u ≡ b → (step_by v s.RightParenthesis r u ≡ Stop) ⊎ (cond b (Go (pure nothing)) (step_by v s.RightParenthesis r u) ≡ step_by v s.RightParenthesis r u)
      go true e = inl (step_stops v s.RightParenthesis r u (parenthesis_steps (seen v u) e))
      go false e = inr refl

  last_finds : (n r : ℕ) {ts mid : List Item} {x : Tall (List Stmt)} → SpellsLast ts (sign n s.RightParenthesis ∷ mid) x → x.levels ≤ suc r → F v (last v r) ts mid x
  unfolding last
  last_finds n r {mid = mid} g.none le = commit_finds v.item (last_by v r) refuse (sign n s.RightParenthesis) mid mid nothing (λ u e. (pure nothing, rw (is_at v s.RightParenthesis n u e) refl, done mid nothing))
  last_finds n r {ts} {mid} {x} (g.step d) le = agrees v.item (last_by v r) (step_by v s.RightParenthesis r) (lasts_step r) ts mid x (step_finds v honest s.RightParenthesis n d refl r le)

  -- ---- statements

  module _ (kind : Kind) where
    abbrev Lower : ℕ → Token → Move Token (Tall (List Stmt))
    Lower room = statement_by v kind room

    simple_agrees : (r : ℕ) (u : Token) → (simple_by v kind r u ≡ Stop) ⊎ (Lower (suc r) u ≡ simple_by v kind r u)
    simple_agrees r u = go (statement_opening (seen v u)) refl
      where
        stops : (y : Opening) → statement_opening (seen v u) ≡ y → (y ≡ o.Simple → ⊥) → simple_by v kind r u ≡ Stop
        stops y e h = simple_stops v kind r u (other_opening (seen v u) y e h)

        go : (y : Opening) → statement_opening (seen v u) ≡ y → (simple_by v kind r u ≡ Stop) ⊎ (Lower (suc r) u ≡ simple_by v kind r u)
        go o.Empty e = inl (stops o.Empty e (λ d. cc))
        go o.If e = inl (stops o.If e (λ d. cc))
        go o.While e = inl (stops o.While e (λ d. cc))
        go o.For e = inl (stops o.For e (λ d. cc))
        go o.Simple e = inr (simple_is v kind (suc r) u e)

    arm_agrees : (room : ℕ) (u : Token) → (Lower room u ≡ Stop) ⊎ (arm_by v (Lower room) u ≡ Lower room u)
    arm_agrees room u = go (is v s.LeftBrace u) refl
      where
        go : (b : Bool) → is v s.LeftBrace u ≡ b → (Lower room u ≡ Stop) ⊎ (cond b (Go (block v (Lower room))) (Lower room u) ≡ Lower room u)
        go true e = inl (statement_stops v kind room u (brace_begins (seen v u) e))
        go false e = inr refl

    empty_goes : (room l : ℕ) (u : Token) → v.item u ≡ sign l s.Semicolon → Lower room u ≡ Go (pure nothing)
    empty_goes room l u e = empty_is v kind room u (rw e refl)

    if_goes : (r l : ℕ) (u : Token) → v.item u ≡ fixed l w.If → 1 ≤ r → Lower (suc r) u ≡ Go (choice v r (Lower r) l)
    if_goes r l u e le =
        let p : suc r - 1 ≡ r = omega arith in
        subst (λ (k : ℕ). Lower (suc r) u ≡ Go (choice v k (Lower k) l)) p
        (subst (λ (j : ℕ). Lower (suc r) u ≡ Go (choice v (suc r - 1) (Lower (suc r - 1)) j)) (line_is u l (What.Fixed w.If) e) (if_is v kind (suc r) u (rw e refl) (omega (arith, le))))

    while_goes : (r l : ℕ) (u : Token) → v.item u ≡ fixed l w.While → 1 ≤ r → Lower (suc r) u ≡ Go (repetition v r (Lower r) l)
    while_goes r l u e le =
        let p : suc r - 1 ≡ r = omega arith in
        subst (λ (k : ℕ). Lower (suc r) u ≡ Go (repetition v k (Lower k) l)) p
        (subst (λ (j : ℕ). Lower (suc r) u ≡ Go (repetition v (suc r - 1) (Lower (suc r - 1)) j)) (line_is u l (What.Fixed w.While) e) (while_is v kind (suc r) u (rw e refl) (omega (arith, le))))

    for_goes : (r l : ℕ) (u : Token) → v.item u ≡ fixed l w.For → Lower (suc r) u ≡ Go (counting v r (Lower r) l)
    for_goes r l u e =
        let p : suc r - 1 ≡ r = omega arith in
        subst (λ (k : ℕ). Lower (suc r) u ≡ Go (counting v k (Lower k) l)) p
        (subst (λ (j : ℕ). Lower (suc r) u ≡ Go (counting v (suc r - 1) (Lower (suc r - 1)) j)) (line_is u l (What.Fixed w.For) e) (for_is v kind (suc r) u (rw e refl) (omega arith)))

    -- one more statement of a list
    statement_turn : (room : ℕ) (ts mid after : List Item) (all x : Tall (List Stmt)) → Reaches v.item (many (Lower room) followed nothing) (many (Lower room) followed all) ts mid → F v (commit (Lower room) refuse) mid after x
        → Reaches v.item (many (Lower room) followed nothing) (many (Lower room) followed (followed all x)) ts after
    statement_turn room ts mid after all x h y zs e =
        let r = h zs e in
        let z = y r.0 r.1 in
        (z.0, z.1, r.2 ∙ many_reads (Lower room) followed (statement_shrinks v kind room) all x r.0 z.0 z.2)

    block_finds : (room n : ℕ) {ts after : List Item} {all : Tall (List Stmt)} → Reaches v.item (many (Lower room) followed nothing) (many (Lower room) followed all) ts (sign n s.RightBrace ∷ after) → F v (block v (Lower room)) ts after all
    unfolding block same_sign
    block_finds room n {ts} {after} {all} h =
        bind_finds v.item (many (Lower room) followed nothing) (λ all. must (is v s.RightBrace) (pure all)) ts (sign n s.RightBrace ∷ after) after all all
        (loop_finds v.item (many (Lower room) followed nothing) (one_more (Lower room) followed) ts (sign n s.RightBrace ∷ after) all h (λ u e. rw (statement_stops v kind room u (rw e refl)) refl))
        (sign_finds v s.RightBrace (pure all) n after after all (done after all))

    else_halts : (room l : ℕ) (e : Tall Choice) (one : Tall (List Stmt)) (after : List Item) → NoElse after → Halts v.item (else_by v (Lower room) l e one) after
    else_halts room l e one [] h = tt
    else_halts room l e one (t ∷ after) h = λ u q. rw (q, h) refl

    choice_finds : (r l m n : ℕ) {ts mid next after : List Item} {e : Tall Choice} {one x : Tall (List Stmt)} → SpellsChoice ts (sign n s.RightParenthesis ∷ mid) e → e.levels ≤ r
        → F v (arm v (Lower r)) mid next one → F v (else_arm v (Lower r) l e one) next after x → F v (choice v r (Lower r) l) (sign m s.LeftParenthesis ∷ ts) after x
    unfolding choice
    choice_finds r l m n {ts} {mid} {next} {after} {e} {one} {x} d le a b =
        bind_finds v.item (trial v r) (λ e. arm v (Lower r) >>= λ one. else_arm v (Lower r) l e one) (sign m s.LeftParenthesis ∷ ts) mid after e x (trial_finds m n r d le)
        (bind_finds v.item (arm v (Lower r)) (λ one. else_arm v (Lower r) l e one) mid next after one x a b)

    both_finds : (r l i : ℕ) (e : Tall Choice) (one two : Tall (List Stmt)) {next after : List Item} → F v (arm v (Lower r)) next after two → F v (else_arm v (Lower r) l e one) (fixed i w.Else ∷ next) after (chosen l e one two)
    both_finds r l i e one two {next} {after} a =
        commit_finds v.item (else_by v (Lower r) l e one) (pure (chosen l e one nothing)) (fixed i w.Else) next after (chosen l e one two)
        (λ u q. (second_arm v (Lower r) l e one, rw q refl, bind_finds v.item (arm v (Lower r)) (λ two. pure (chosen l e one two)) next after after two (chosen l e one two) a (done after (chosen l e one two))))

    repetition_finds : (r l m n : ℕ) {ts mid after : List Item} {e : Tall Expr} {body : Tall (List Stmt)} → SpellsWhole ts (sign n s.RightParenthesis ∷ mid) e → e.levels ≤ r
        → F v (arm v (Lower r)) mid after body → F v (repetition v r (Lower r) l) (sign m s.LeftParenthesis ∷ ts) after (repeated l e body)
    unfolding repetition
    repetition_finds r l m n {ts} {mid} {after} {e} {body} d le a =
        bind_finds v.item (condition v r) (λ e. arm v (Lower r) >>= λ body. pure (repeated l e body)) (sign m s.LeftParenthesis ∷ ts) mid after e (repeated l e body) (condition_finds m n r d le)
        (bind_finds v.item (arm v (Lower r)) (λ body. pure (repeated l e body)) mid after after body (repeated l e body) a (done after (repeated l e body)))

    counting_finds : (r l m n i j : ℕ) {ts mid next later after : List Item} {e : Tall Expr} {one two body : Tall (List Stmt)} → SpellsFirst ts (sign n s.Semicolon ∷ mid) one → one.levels ≤ suc r
        → SpellsTest mid (sign i s.Semicolon ∷ next) e → e.levels ≤ r → SpellsLast next (sign j s.RightParenthesis ∷ later) two → two.levels ≤ suc r
        → F v (arm v (Lower r)) later after body → F v (counting v r (Lower r) l) (sign m s.LeftParenthesis ∷ ts) after (counted l one e two body)
    unfolding counting
    counting_finds r l m n i j {ts} {mid} {next} {later} {after} {e} {one} {two} {body} x lx y ly z lz a =
        let whole = counted l one e two body in
        sign_finds v s.LeftParenthesis (counted_parts v r (Lower r) l) m ts after whole
        (bind_finds v.item (first v r) (λ one. middle v r >>= λ e. last v r >>= λ two. counted_arm v (Lower r) l one e two) ts mid after one whole (first_finds n r x lx)
        (bind_finds v.item (middle v r) (λ e. last v r >>= λ two. counted_arm v (Lower r) l one e two) mid next after e whole (test_finds i r y ly)
        (bind_finds v.item (last v r) (λ two. counted_arm v (Lower r) l one e two) next later after two whole (last_finds j r z lz)
        (bind_finds v.item (arm v (Lower r)) (λ body. pure (counted l one e two body)) later after after body whole a (done after whole)))))

    braces_find : (room l : ℕ) {ts after : List Item} {all : Tall (List Stmt)} → F v (block v (Lower room)) ts after all → F v (arm v (Lower room)) (sign l s.LeftBrace ∷ ts) after all
    unfolding arm
    braces_find room l {ts} {after} {all} h = commit_finds v.item (arm_by v (Lower room)) refuse (sign l s.LeftBrace) ts after all (λ u e. (block v (Lower room), rw (is_at v s.LeftBrace l u e) refl, h))

    single_finds : (room : ℕ) {ts after : List Item} {x : Tall (List Stmt)} → F v (commit (Lower room) refuse) ts after x → F v (arm v (Lower room)) ts after x
    unfolding arm
    single_finds room {ts} {after} {x} h = agrees v.item (arm_by v (Lower room)) (Lower room) (arm_agrees room) ts after x h

    mutual
      -- every statement that is spelled is read
      pub statement_found : {b : Bool} {ts after : List Item} {x : Tall (List Stmt)} → SpellsStatement kind b ts after x → (room : ℕ) → x.levels ≤ room → Allowed b after → F v (commit (Lower room) refuse) ts after x
      statement_found (g.simple d) zero le h = let up = simple_tall d in absurd (omega (arith, le, up))
      statement_found {ts = ts} {after = after} {x = x} (g.simple {l = l} d) (suc r) le h = agrees v.item (Lower (suc r)) (simple_by v kind r) (simple_agrees r) ts after x (simple_finds v honest l d r le)
      statement_found {after = after} (g.empty {l = l}) room le h = commit_finds v.item (Lower room) refuse (sign l s.Semicolon) after after nothing (λ u e. (pure nothing, empty_goes room l u e, done after nothing))
      statement_found (g.if_only d a) zero le h = absurd (omega (arith, le))
      statement_found {after = after} (g.if_only {b = b} {l = l} {m = m} {n = n} {ts = ts} {c = e} {one = one} d a) (suc r) le h =
          let up = choice_tall d in
          commit_finds v.item (Lower (suc r)) refuse (fixed l w.If) (sign m s.LeftParenthesis ∷ ts) after (chosen l e one nothing)
          (λ u q. (
            choice v r (Lower r) l,
            if_goes r l u q (omega (arith, le, up)),
            choice_finds r l m n d (omega (arith, le)) (arm_found a r (omega (arith, le)) (allowed b after h)) (none_finds v.item (else_by v (Lower r) l e one) after (chosen l e one nothing) (else_halts r l e one after h)),
          ))
      statement_found (g.if_else d a c) zero le h = absurd (omega (arith, le))
      statement_found {after = after} (g.if_else {l = l} {m = m} {n = n} {i = i} {ts = ts} {c = e} {one = one} {two = two} d a c) (suc r) le h =
          let up = choice_tall d in
          commit_finds v.item (Lower (suc r)) refuse (fixed l w.If) (sign m s.LeftParenthesis ∷ ts) after (chosen l e one two)
          (λ u q. (
            choice v r (Lower r) l,
            if_goes r l u q (omega (arith, le, up)),
            choice_finds r l m n d (omega (arith, le)) (arm_found a r (omega (arith, le)) tt) (both_finds r l i e one two (arm_found c r (omega (arith, le)) h)),
          ))
      statement_found (g.while d a) zero le h = absurd (omega (arith, le))
      statement_found {after = after} (g.while {l = l} {m = m} {n = n} {ts = ts} {e = e} {body = body} d a) (suc r) le h =
          let up = expression_tall d in
          commit_finds v.item (Lower (suc r)) refuse (fixed l w.While) (sign m s.LeftParenthesis ∷ ts) after (repeated l e body)
          (λ u q. (repetition v r (Lower r) l, while_goes r l u q (omega (arith, le, up)), repetition_finds r l m n d (omega (arith, le)) (arm_found a r (omega (arith, le)) h)))
      statement_found (g.for y c z a) zero le h = absurd (omega (arith, le))
      statement_found {after = after} (g.for {l = l} {m = m} {n = n} {i = i} {j = j} {ts = ts} {first = one} {last = two} {body = body} {e = e} y c z a) (suc r) le h =
          commit_finds v.item (Lower (suc r)) refuse (fixed l w.For) (sign m s.LeftParenthesis ∷ ts) after (counted l one e two body)
          (λ u q. (counting v r (Lower r) l, for_goes r l u q, counting_finds r l m n i j y (omega (arith, le)) c (omega (arith, le)) z (omega (arith, le)) (arm_found a r (omega (arith, le)) h)))

      pub arm_found : {b : Bool} {ts after : List Item} {x : Tall (List Stmt)} → SpellsArm kind b ts after x → (room : ℕ) → x.levels ≤ room → Allowed b after → F v (arm v (Lower room)) ts after x
      arm_found (g.braces {l = l} {m = m} d) room le h = braces_find room l (block_finds room m (list_found d room le refl))
      arm_found (g.single d) room le h = single_finds room (statement_found d room le h)

      pub list_found : {ts after : List Item} {all : Tall (List Stmt)} → SpellsList kind ts after all → (room : ℕ) → all.levels ≤ room → NoElse after
          → Reaches v.item (many (Lower room) followed nothing) (many (Lower room) followed all) ts after
      list_found {ts} g.none room le h = reaches_itself v.item (many (Lower room) followed nothing) ts
      list_found {ts} {after} (g.then {b = b} {mid = mid} {all = all} {x = x} d y) room le h =
          statement_turn room ts mid after all x (list_found d room (omega (arith, le)) (statement_no_else y)) (statement_found y room (omega (arith, le)) (allowed b after h))
