-- What the parser reads is what the grammar spells: statements, their parts and their arms.
use Rattle.std.proofs.Common.{◌≡◌, ℕ, zero, suc, ◌-◌, Bool, true, false, cond, List, [], ◌∷◌, Some, refl, sym, ap, subst}
use Rattle.c_lexer.specs.declared.token.Sign.TheVariants as s
use Rattle.c_tree.specs.declared.program.Kind.{Kind}
use Rattle.c_tree.specs.Expressions as tree
use Rattle.c_tree.specs.Expressions.{Expr, Place}
use Rattle.c_tree.specs.Lined as lined
use Rattle.c_tree.specs.Lined.{Stmt}
use Rattle.c_grammar.specs.Items.{What, Item, at, sign, name_of}
use Rattle.c_grammar.specs.Levels.{Tall, tall, nothing, alone, followed}
use Rattle.c_grammar.specs.Expressions.{SpellsWhole, SpellsAddress}
use Rattle.c_grammar.specs.Statements as g
use Rattle.c_grammar.specs.Statements.{SpellsFirst, SpellsTest, SpellsLast, Choice, SpellsTry, SpellsChoice, SpellsStatement, SpellsArm, SpellsList, chosen}
use Rattle.parse_laws.specs.Parser.{Parser, pure, Move, Stop, Deep, Go, when, deeper}
use Rattle.parse_laws.proofs.Sound.{Sound, SoundMove, stop_sound, deep_sound, go_sound, pure_sound, refuse_sound, sound_map, bind_sound, commit_sound, token_sound, when_sound, many_sound, option_sound}
use Rattle.c_expressions.specs.Parsers.{Sight, seen, is, fits}
use Rattle.c_expressions.proofs.Sounds.{items, named_sound, close_sound, deeper_sound, expression_sound, address_sound}
use Rattle.c_simple.specs.Parsers.{line, step_by, begins_simple}
use Rattle.c_simple.proofs.Sounds.{simple_sound, step_sound}
use Rattle.c_statements.specs.declared.word.Opening.{Opening}
use Rattle.c_statements.specs.declared.word.Opening.TheVariants as o
use Rattle.c_statements.specs.declared.word.Question.{Question}
use Rattle.c_statements.specs.declared.word.Question.TheVariants as question
use Rattle.c_statements.specs.declared.word.Comparison.{Comparison}
use Rattle.c_statements.specs.declared.word.Comparison.TheVariants as comparison
use Rattle.c_statements.specs.declared.word.Start.{Start}
use Rattle.c_statements.specs.declared.word.Start.TheVariants as f
use Rattle.c_statements.specs.Words.{statement_opening, asks, behind_try, is_try, first_start, is_else}
use Rattle.c_statements.specs.Parsers.{condition, valued, tried, compared_by, compared, uncompared, plain, negated, behind_not, two_deeper, asked_by, asked, trial, declared, first_by, first, middle, last, block, arm, second_arm, choice, repetition, counting, twice_deeper, simple_in, statement_in, statement_by, else_comes}
use Rattle.c_statements.proofs.Spelled.{sign_at, asks_try_at, asks_not_at, end_at, equal_at, other_at, try_at, zero_at, try_spelled, try_then, try_compared, empty_at, if_at, while_at, for_at, nothing_at, int_at, else_at, declare_spelled}

module _ {Token A : Type 0} {R S : List Token → List Token → A → Type 0} where
  pub move_map : {m : Move Token A} → ((ts rest : List Token) (a : A) → R ts rest a → S ts rest a) → SoundMove R m → SoundMove S m
  move_map h x = record { taken = λ p e. sound_map h (x.taken p e) }

module _ {Token A : Type 0} {R : List Token → List Token → A → Type 0} where
  twice_sound : {p : ℕ → Parser Token A} (room : ℕ) → ((r : ℕ) → Sound (p r) R) → SoundMove R (twice_deeper p room)
  twice_sound zero h = deep_sound
  twice_sound (suc zero) h = deep_sound
  twice_sound (suc (suc r)) h = go_sound (h (suc r))

  once_sound : {p : ℕ → Parser Token A} (room : ℕ) → ((r : ℕ) → Sound (p r) R) → SoundMove R (deeper p room)
  once_sound zero h = deep_sound
  once_sound (suc r) h = go_sound (h r)

when_stops : {Token A : Type 0} (b : Bool) (p : Parser Token A) → when b p ≡ Stop → b ≡ false
when_stops true p e = absurd cc
when_stops false p e = refl

module _ {Token : Type 0} (v : Sight Token) where
  -- ---- what `while` tests

  -- parentheses with an expression in them
  abbrev pub C : List Token → List Token → Tall Expr → Type 0
  C ts rest e = (m : ℕ) × (n : ℕ) × (inside : List Item) × (items v ts ≡ sign m s.LeftParenthesis ∷ inside) × SpellsWhole inside (sign n s.RightParenthesis ∷ items v rest) e

  pub condition_sound : (r : ℕ) → Sound (condition v r) C
  unfolding condition
  condition_sound r = token_sound (λ u q. bind_sound (expression_sound v r) (λ e. close_sound v s.RightParenthesis (fits r e.levels) (λ w d. pure_sound (λ rest ts y. (
    line v u,
    line v w,
    items v ts,
    ap (λ (t : Item). t ∷ items v ts) (sign_at s.LeftParenthesis (v.item u) q),
    subst (λ (t : Item). SpellsWhole (items v ts) (t ∷ items v rest) e) (sign_at s.RightParenthesis (v.item w) d) y,
  )))))

  -- ---- what `if` tests

  -- with the `)` behind it
  abbrev pub Q : List Token → List Token → Tall Choice → Type 0
  Q ts rest x = (n : ℕ) × SpellsChoice (items v ts) (sign n s.RightParenthesis ∷ items v rest) x

  valued_sound : (r : ℕ) → Sound (valued v r) Q
  valued_sound r =
      bind_sound (expression_sound v r) (λ e. close_sound v s.RightParenthesis (fits r e.levels) (λ w d. pure_sound (λ rest ts y. (line v w, g.value (subst (λ (t : Item). SpellsWhole (items v ts) (t ∷ items v rest) e) (sign_at s.RightParenthesis (v.item w) d) y)))))

  tried_sound : (r : ℕ) → Sound (tried v r) (λ ts rest p. (n : ℕ) × SpellsAddress (items v ts) (sign n s.RightParenthesis ∷ items v rest) p)
  unfolding tried
  tried_sound r = bind_sound (address_sound v r) (λ p. token_sound (λ w d. pure_sound (λ rest ts y. (line v w, subst (λ (t : Item). SpellsAddress (items v ts) (t ∷ items v rest) p) (sign_at s.RightParenthesis (v.item w) d) y))))

  -- behind a trylock that was read
  abbrev Behind : (List Item → List Item) → Tall Place → List Token → List Token → Tall Choice → Type 0
  Behind before p mid rest x = (ts : List Item) → SpellsTry ts (items v mid) p → (n : ℕ) × SpellsChoice (before ts) (sign n s.RightParenthesis ∷ items v rest) x

  compared_sound : (p : Tall Place) → Sound (compared v p) (Behind (λ ts. ts) p)
  unfolding compared
  compared_sound p = commit_sound (λ w. go w (behind_try (seen v w)) refl) refuse_sound
    where
      go : (w : Token) (x : Comparison) → behind_try (seen v w) ≡ x → SoundMove (λ mid rest y. Behind (λ ts. ts) p (w ∷ mid) rest y) (compared_by v p x)
      go w comparison.End d = go_sound (pure_sound (λ rest ts y. (line v w, g.tried (try_then ts (items v rest) p (v.item w) (sign (line v w) s.RightParenthesis) (end_at (v.item w) d) y))))
      go w comparison.Equal d = go_sound (token_sound (λ a e. token_sound (λ b f. pure_sound (λ rest ts y. (
        line v b,
        g.zero (try_compared ts (items v rest) p (v.item w) (v.item a) (v.item b) (sign (line v w) s.Equal) (at (line v a) (What.Number 0)) (sign (line v b) s.RightParenthesis) (equal_at (v.item w) d) (zero_at (v.item a) e) (sign_at s.RightParenthesis (v.item b) f) y),
      )))))
      go w comparison.NotEqual d = go_sound (token_sound (λ a e. token_sound (λ b f. pure_sound (λ rest ts y. (
        line v b,
        g.other (try_compared ts (items v rest) p (v.item w) (v.item a) (v.item b) (sign (line v w) s.NotEqual) (at (line v a) (What.Number 0)) (sign (line v b) s.RightParenthesis) (other_at (v.item w) d) (zero_at (v.item a) e) (sign_at s.RightParenthesis (v.item b) f) y),
      )))))
      go w comparison.Other d = stop_sound

  uncompared_sound : (l : ℕ) (p : Tall Place) → Sound (uncompared v p) (Behind (λ ts. sign l s.Not ∷ ts) p)
  uncompared_sound l p = token_sound (λ w d. pure_sound (λ rest ts y. (line v w, g.not_tried (try_then ts (items v rest) p (v.item w) (sign (line v w) s.RightParenthesis) (sign_at s.RightParenthesis (v.item w) d) y))))

  -- an expression of which tokens were read already
  begun_sound : (r : ℕ) (u : Token) → Sound (λ ts. valued v r (u ∷ ts)) (λ mid rest x. Q (u ∷ mid) rest x)
  begun_sound r u = record { spelled = λ mid x rest e. (valued_sound r).spelled (u ∷ mid) x rest e }

  begun_twice_sound : (r : ℕ) (u t : Token) → Sound (λ ts. valued v r (u ∷ t ∷ ts)) (λ mid rest x. Q (u ∷ t ∷ mid) rest x)
  begun_twice_sound r u t = record { spelled = λ mid x rest e. (valued_sound r).spelled (u ∷ t ∷ mid) x rest e }

  plain_sound : (r : ℕ) (u : Token) → asks (seen v u) ≡ question.TryLock → Sound (plain v r u) (λ mid rest x. Q (u ∷ mid) rest x)
  unfolding plain
  plain_sound r u d =
      commit_sound (λ t. when_sound (is v s.LeftParenthesis t) (λ e. bind_sound (tried_sound (r - 1))
      (λ p. sound_map (λ mid rest x h ts y. h (v.item u ∷ v.item t ∷ items v ts) (try_spelled (v.item u) (v.item t) y.0 (items v ts) (items v mid) p (asks_try_at (v.item u) d) e y.1)) (compared_sound p)))) (begun_sound r u)

  negated_sound : (r : ℕ) (u t : Token) → asks (seen v u) ≡ question.Not → is_try (seen v t) ≡ true → Sound (negated v r u t) (λ mid rest x. Q (u ∷ t ∷ mid) rest x)
  unfolding negated
  negated_sound r u t d c =
      commit_sound (λ w. when_sound (is v s.LeftParenthesis w) (λ e. bind_sound (tried_sound (r - 2)) (λ p. sound_map (λ mid rest x h ts y. turned w ts rest x
      (h (v.item t ∷ v.item w ∷ items v ts) (try_spelled (v.item t) (v.item w) y.0 (items v ts) (items v mid) p (try_at (v.item t) c) e y.1))) (uncompared_sound (line v u) p)))) (begun_twice_sound r u t)
    where
      turned : (w : Token) (ts rest : List Token) (x : Tall Choice) → (n : ℕ) × SpellsChoice (sign (line v u) s.Not ∷ v.item t ∷ v.item w ∷ items v ts) (sign n s.RightParenthesis ∷ items v rest) x → Q (u ∷ t ∷ w ∷ ts) rest x
      turned w ts rest x y = (y.0, rw (asks_not_at (v.item u) d) y.1)

  behind_not_sound : (r : ℕ) (u : Token) → asks (seen v u) ≡ question.Not → Sound (behind_not v r u) (λ mid rest x. Q (u ∷ mid) rest x)
  unfolding behind_not
  behind_not_sound r u d = commit_sound (λ t. when_sound (is_try (seen v t)) (λ c. negated_sound r u t d c)) (begun_sound r u)

  two_sound : {A : Type 0} {R : List Token → List Token → A → Type 0} {p : Parser Token A} (r : ℕ) → Sound p R → SoundMove R (two_deeper p r)
  two_sound zero h = deep_sound
  two_sound (suc zero) h = deep_sound
  two_sound (suc (suc r)) h = go_sound h

  asked_sound : (r : ℕ) → Sound (asked v r) Q
  unfolding asked
  asked_sound r = commit_sound (λ u. go u (asks (seen v u)) refl) (valued_sound r)
    where
      go : (u : Token) (x : Question) → asks (seen v u) ≡ x → SoundMove (λ mid rest y. Q (u ∷ mid) rest y) (asked_by v r u x)
      go u question.TryLock d = deeper_sound v r (λ m e. plain_sound r u d)
      go u question.Not d = two_sound r (behind_not_sound r u d)
      go u question.Expression d = stop_sound

  -- and with the parentheses
  abbrev pub P : List Token → List Token → Tall Choice → Type 0
  P ts rest x = (m : ℕ) × (n : ℕ) × (inside : List Item) × (items v ts ≡ sign m s.LeftParenthesis ∷ inside) × SpellsChoice inside (sign n s.RightParenthesis ∷ items v rest) x

  pub trial_sound : (r : ℕ) → Sound (trial v r) P
  unfolding trial
  trial_sound r = token_sound (λ u q. sound_map (λ mid rest x y. (line v u, y.0, items v mid, ap (λ (t : Item). t ∷ items v mid) (sign_at s.LeftParenthesis (v.item u) q), y.1)) (asked_sound r))

  -- ---- the parts of a `for`, with the sign behind them

  abbrev pub F : List Token → List Token → Tall (List Stmt) → Type 0
  F ts rest x = (n : ℕ) × SpellsFirst (items v ts) (sign n s.Semicolon ∷ items v rest) x

  declared_sound : (r : ℕ) (u : Token) → first_start (seen v u) ≡ f.Int → Sound (declared v r) (λ mid rest x. F (u ∷ mid) rest x)
  unfolding declared
  declared_sound r u d =
      commit_sound (λ w. named_sound v (λ mid rest x. F (u ∷ mid) rest x) w (λ n q. token_sound (λ a p. bind_sound (expression_sound v r) (λ e. close_sound v s.Semicolon (fits r e.levels) (λ z c. pure_sound (λ rest ts y. (
        line v z,
        spelled u w a z n ts rest e d q p c y,
      ))))))) refuse_sound
    where
      spelled : (u w a z : Token) (n : List ℕ) (ts rest : List Token) (e : Tall Expr) → first_start (seen v u) ≡ f.Int → name_of (seen v w) ≡ Some n → is v s.Assign a ≡ true → is v s.Semicolon z ≡ true
          → SpellsWhole (items v ts) (v.item z ∷ items v rest) e → SpellsFirst (v.item u ∷ v.item w ∷ v.item a ∷ items v ts) (sign (line v z) s.Semicolon ∷ items v rest) (alone (lined.Declare (line v w) n (Some e.tree)) e.levels)
      spelled u w a z n ts rest e d q p c y =
          rw (int_at (v.item u) d, sign_at s.Assign (v.item a) p)
          (declare_spelled (line v u) (line v a) (v.item w) n (items v ts) (sign (line v z) s.Semicolon ∷ items v rest) e q
          (subst (λ (t : Item). SpellsWhole (items v ts) (t ∷ items v rest) e) (sign_at s.Semicolon (v.item z) c) y))

  pub first_sound : (r : ℕ) → Sound (first v r) F
  unfolding first
  first_sound r = commit_sound (λ u. go u (first_start (seen v u)) refl) refuse_sound
    where
      go : (u : Token) (x : Start) → first_start (seen v u) ≡ x → SoundMove (λ mid rest y. F (u ∷ mid) rest y) (first_by v r u x)
      go u f.Nothing d = go_sound (pure_sound (λ rest. (line v u, subst (λ (t : Item). SpellsFirst (t ∷ items v rest) (sign (line v u) s.Semicolon ∷ items v rest) nothing) (sym (nothing_at (v.item u) d)) g.none)))
      go u f.Int d = deeper_sound v r (λ m e. declared_sound r u d)
      go u f.Step d = move_map (λ ts rest x y. (y.0, g.step y.1)) (step_sound v s.Semicolon r u)

  abbrev pub T : List Token → List Token → Tall Expr → Type 0
  T ts rest e = (n : ℕ) × SpellsTest (items v ts) (sign n s.Semicolon ∷ items v rest) e

  pub test_sound : (r : ℕ) → Sound (middle v r) T
  unfolding middle
  test_sound r =
      commit_sound (λ u. when_sound (is v s.Semicolon u) (λ q. pure_sound (λ rest. (line v u, subst (λ (t : Item). SpellsTest (t ∷ items v rest) (sign (line v u) s.Semicolon ∷ items v rest) (tall (tree.Number 1) 0)) (sym (sign_at s.Semicolon (v.item u) q)) g.missing))))
      (bind_sound (expression_sound v r) (λ e. close_sound v s.Semicolon (fits r e.levels) (λ z c. pure_sound (λ rest ts y. (line v z, g.given (subst (λ (t : Item). SpellsWhole (items v ts) (t ∷ items v rest) e) (sign_at s.Semicolon (v.item z) c) y))))))

  abbrev pub L : List Token → List Token → Tall (List Stmt) → Type 0
  L ts rest x = (n : ℕ) × SpellsLast (items v ts) (sign n s.RightParenthesis ∷ items v rest) x

  pub last_sound : (r : ℕ) → Sound (last v r) L
  unfolding last
  last_sound r = commit_sound (λ u. go u (is v s.RightParenthesis u) refl) refuse_sound
    where
      go : (u : Token) (b : Bool) → is v s.RightParenthesis u ≡ b → SoundMove (λ mid rest y. L (u ∷ mid) rest y) (cond b (Go (pure nothing)) (step_by v s.RightParenthesis r u))
      go u true q = go_sound (pure_sound (λ rest. (line v u, subst (λ (t : Item). SpellsLast (t ∷ items v rest) (sign (line v u) s.RightParenthesis ∷ items v rest) nothing) (sym (sign_at s.RightParenthesis (v.item u) q)) g.none)))
      go u false q = move_map (λ ts rest x y. (y.0, g.step y.1)) (step_sound v s.RightParenthesis r u)

  -- ---- statements and arms

  module _ (kind : Kind) where
    -- A statement; where it ends in an `if` without `else`, no `else` follows.
    abbrev pub S : List Token → List Token → Tall (List Stmt) → Type 0
    S ts rest x = (b : Bool) × SpellsStatement kind b (items v ts) (items v rest) x × (b ≡ false → else_comes v rest ≡ false)

    abbrev pub A : List Token → List Token → Tall (List Stmt) → Type 0
    A ts rest x = (b : Bool) × SpellsArm kind b (items v ts) (items v rest) x × (b ≡ false → else_comes v rest ≡ false)

    -- where an `else` follows, it isn't such an arm
    closed_arm : (ts rest : List Item) (x : Tall (List Stmt)) (b c : Bool) → SpellsArm kind b ts rest x → (b ≡ false → c ≡ false) → c ≡ true → SpellsArm kind true ts rest x
    closed_arm ts rest x true c y h q = y
    closed_arm ts rest x false c y h q = absurd (differ c (h refl) q)
      where
        differ : (c : Bool) → c ≡ false → c ≡ true → ⊥
        differ c e d = cc

    module _ (lower : Token → Move Token (Tall (List Stmt))) (h : (u : Token) → SoundMove (λ mid rest x. S (u ∷ mid) rest x) (lower u)) where
      block_sound : Sound (block v lower) (λ ts rest x. (m : ℕ) × SpellsList kind (items v ts) (sign m s.RightBrace ∷ items v rest) x)
      unfolding block
      block_sound =
          bind_sound {R = λ ts rest all. SpellsList kind (items v ts) (items v rest) all}
          (sound_map (λ mid rest b y. y mid g.none) (many_sound {Item = S} {All = λ ts rest all. SpellsList kind (items v ts) (items v rest) all} lower followed (λ ts mid rest all x l i. g.then l i.1) h nothing))
          (λ all. token_sound (λ u q. pure_sound (λ rest ts y. (line v u, subst (λ (t : Item). SpellsList kind (items v ts) (t ∷ items v rest) all) (sign_at s.RightBrace (v.item u) q) y))))

      arm_sound : Sound (arm v lower) A
      unfolding arm
      arm_sound = commit_sound (λ u. go u (is v s.LeftBrace u) refl) refuse_sound
        where
          go : (u : Token) (b : Bool) → is v s.LeftBrace u ≡ b → SoundMove (λ mid rest x. A (u ∷ mid) rest x) (cond b (Go (block v lower)) (lower u))
          go u true q = go_sound (sound_map (λ mid rest x y. (true, subst (λ (t : Item). SpellsArm kind true (t ∷ items v mid) (items v rest) x) (sym (sign_at s.LeftBrace (v.item u) q)) (g.braces y.1), λ e. absurd cc)) block_sound)
          go u false q = move_map (λ mid rest x y. (y.0, g.single y.1, y.2)) (h u)

      choice_sound : (r : ℕ) (u : Token) → statement_opening (seen v u) ≡ o.If → Sound (choice v r lower (line v u)) (λ mid rest x. S (u ∷ mid) rest x)
      unfolding choice
      choice_sound r u d =
          bind_sound (trial_sound r) (λ e. bind_sound arm_sound (λ one. option_sound
          (λ w. when_sound (is_else (seen v w)) (λ q. bind_sound arm_sound (λ two. pure_sound (λ rest next z mid y ts c. (z.0, both w e one two rest next mid ts q z.0 z.1 y c, z.2)))))
          (λ mid y ts c. (false, single e one [] mid ts y c, λ p. refl))
          (λ w rest p mid y ts c. (false, single e one (w ∷ rest) mid ts y c, λ n. when_stops (is_else (seen v w)) (second_arm v lower (line v u) e one) p))))
        where
          single : (e : Tall Choice) (one : Tall (List Stmt)) (rest mid ts : List Token) → A mid rest one → P ts mid e → SpellsStatement kind false (v.item u ∷ items v ts) (items v rest) (chosen (line v u) e one nothing)
          single e one rest mid ts y c = rw (if_at (v.item u) d, c.3) (g.if_only c.4 y.1)

          both : (w : Token) (e : Tall Choice) (one two : Tall (List Stmt)) (rest next mid ts : List Token) → is_else (seen v w) ≡ true → (b : Bool) → SpellsArm kind b (items v next) (items v rest) two → A mid (w ∷ next) one → P ts mid e
              → SpellsStatement kind b (v.item u ∷ items v ts) (items v rest) (chosen (line v u) e one two)
          both w e one two rest next mid ts q b z y c =
              let first : SpellsArm kind true (items v mid) (v.item w ∷ items v next) one = closed_arm (items v mid) (v.item w ∷ items v next) one y.0 (is_else (seen v w)) y.1 y.2 q in
              rw (if_at (v.item u) d, c.3) (g.if_else c.4 (subst (λ (t : Item). SpellsArm kind true (items v mid) (t ∷ items v next) one) (else_at (v.item w) q) first) z)

      repetition_sound : (r : ℕ) (u : Token) → statement_opening (seen v u) ≡ o.While → Sound (repetition v r lower (line v u)) (λ mid rest x. S (u ∷ mid) rest x)
      unfolding repetition
      repetition_sound r u d = bind_sound (condition_sound r) (λ e. bind_sound arm_sound (λ body. pure_sound (λ rest mid y ts c. (y.0, rw (while_at (v.item u) d, c.3) (g.while c.4 y.1), y.2))))

      counting_sound : (r : ℕ) (u : Token) → statement_opening (seen v u) ≡ o.For → Sound (counting v r lower (line v u)) (λ mid rest x. S (u ∷ mid) rest x)
      unfolding counting
      counting_sound r u d = token_sound (λ p q. bind_sound (first_sound r) (λ one. bind_sound (test_sound r) (λ e. bind_sound (last_sound r) (λ two. bind_sound arm_sound (λ body. pure_sound (λ rest t4 a t3 b t2 c t1 y. (
        a.0,
        rw (for_at (v.item u) d, sign_at s.LeftParenthesis (v.item p) q) (g.for y.1 c.1 b.1 a.1),
        a.2,
      )))))))

    simple_in_sound : (room : ℕ) (u : Token) → SoundMove (λ mid rest x. S (u ∷ mid) rest x) (simple_in v kind room u)
    simple_in_sound zero u = go (begins_simple v u)
      where
        go : (b : Bool) → SoundMove (λ mid rest x. S (u ∷ mid) rest x) (cond b Deep Stop)
        go true = deep_sound
        go false = stop_sound
    simple_in_sound (suc r) u = move_map (λ mid rest x y. (true, g.simple y.1, λ e. absurd cc)) (simple_sound v kind r u)

    in_sound : (room : ℕ) (lower : Token → Move Token (Tall (List Stmt))) → ((u : Token) → SoundMove (λ mid rest x. S (u ∷ mid) rest x) (lower u)) → (u : Token) (x : Opening) → statement_opening (seen v u) ≡ x
        → SoundMove (λ mid rest x. S (u ∷ mid) rest x) (statement_in v kind room lower u x)
    in_sound room lower h u o.Empty d = go_sound (pure_sound (λ rest. (true, subst (λ (t : Item). SpellsStatement kind true (t ∷ items v rest) (items v rest) nothing) (sym (empty_at (v.item u) d)) g.empty, λ e. absurd cc)))
    in_sound room lower h u o.If d = twice_sound room (λ r. choice_sound lower h r u d)
    in_sound room lower h u o.While d = twice_sound room (λ r. repetition_sound lower h r u d)
    in_sound room lower h u o.For d = once_sound room (λ r. counting_sound lower h r u d)
    in_sound room lower h u o.Simple d = simple_in_sound room u

    -- every statement that is read is spelled
    pub statement_sound : (room : ℕ) (u : Token) → SoundMove (λ mid rest x. S (u ∷ mid) rest x) (statement_by v kind room u)
    unfolding statement_by
    statement_sound zero u = in_sound zero (λ _. Stop) (λ _. stop_sound) u (statement_opening (seen v u)) refl
    statement_sound (suc r) u = in_sound (suc r) (statement_by v kind r) (statement_sound r) u (statement_opening (seen v u)) refl
