-- What the parser reads takes no more levels than its room has.
use Rattle.std.proofs.Common.{◌≡◌, ℕ, zero, suc, ◌-◌, ◌<◌, ◌≤◌, Bool, true, false, cond, List, ◌∷◌, refl, ap, arith}
use Rattle.std.proofs.lemmas.Bool.{ltb-true}
use Rattle.c_lexer.specs.declared.token.Sign.{Sign}
use Rattle.c_lexer.specs.declared.token.Sign.TheVariants as s
use Rattle.c_tree.specs.declared.program.Kind.{Kind}
use Rattle.c_tree.specs.declared.program.Kind.TheVariants as kinds
use Rattle.c_tree.specs.Expressions as tree
use Rattle.c_tree.specs.Expressions.{Expr, Place}
use Rattle.c_tree.specs.Lined.{Stmt}
use Rattle.c_grammar.specs.Levels.{Tall, tall, nothing, followed}
use Rattle.c_grammar.specs.Statements.{Choice, Body}
use Rattle.parse_laws.specs.Parser.{Parser, pure, Move, Stop, Deep, Go}
use Rattle.parse_laws.proofs.Sound.{Sound, SoundMove, stop_sound, deep_sound, go_sound, pure_sound, refuse_sound, sound_map, bind_sound, and_go_sound, commit_sound, token_sound, when_sound, many_sound, loop_sound}
use Rattle.c_expressions.specs.Parsers.{Sight, seen, is, fits, fitting, close, expression}
use Rattle.c_expressions.proofs.Closers.{fits_le}
use Rattle.c_expressions.proofs.Fits.{address_fits}
use Rattle.c_expressions.proofs.Sounds.{close_sound, named_sound, deeper_sound}
use Rattle.c_simple.specs.Parsers.{line, step_by, begins_simple}
use Rattle.c_simple.proofs.Begins.{simple_fits, step_fits}
use Rattle.c_statements.specs.declared.word.Opening.{Opening}
use Rattle.c_statements.specs.declared.word.Opening.TheVariants as o
use Rattle.c_statements.specs.declared.word.Question.{Question}
use Rattle.c_statements.specs.declared.word.Question.TheVariants as question
use Rattle.c_statements.specs.declared.word.Comparison.{Comparison}
use Rattle.c_statements.specs.declared.word.Comparison.TheVariants as comparison
use Rattle.c_statements.specs.declared.word.Start.{Start}
use Rattle.c_statements.specs.declared.word.Start.TheVariants as f
use Rattle.c_statements.specs.declared.word.Thread.{Thread}
use Rattle.c_statements.specs.declared.word.Thread.TheVariants as t
use Rattle.c_statements.specs.Words.{statement_opening, asks, behind_try, is_try, first_start, thread_opening, is_else}
use Rattle.c_statements.specs.Parsers.{condition, as_value, valued, tried, compared_by, compared, plain, negated, behind_not, asked_by, asked, trial, declared, first_by, first, middle, last, block, arm, choice, repetition, counting, statement_in, statement_by, empty_body, stated, stated_by, with_slots_by, static_threads, threads, main_by, body_by, body}
use Rattle.c_statements.proofs.Sounds.{move_map}

module _ {Token : Type 0} (v : Sight Token) where
  -- nothing is said of what is read
  any : {A : Type 0} {p : Parser Token A} → Sound p (λ ts rest a. Unit {0})
  any = record { spelled = λ ts a rest e. tt }

  -- what a closing sign lets pass fits
  close_fits : {A : Type 0} (x : Sign) (r n : ℕ) (a : A) → Sound (close v x (fits r n) (pure a)) (λ ts rest b. (a ≡ b) × (n ≤ r))
  close_fits {A} x r n a = go (fits r n) refl
    where
      none : (u : Token) (b : Bool) → SoundMove {Token = Token} {A = Token} (λ mid rest w. ⊥) (cond b (fitting false (pure u)) Stop)
      none u true = deep_sound
      none u false = stop_sound

      go : (b : Bool) → fits r n ≡ b → Sound (close v x b (pure a)) (λ ts rest b. (a ≡ b) × (n ≤ r))
      go true q = close_sound v x true (λ u e. pure_sound (λ rest. let lt = ltb-true n (suc r) q in (refl, omega (arith, lt))))
      go false q = bind_sound {R = λ ts rest u. ⊥} (commit_sound (λ u. none u (is v x u)) refuse_sound) (λ u. record { spelled = λ mid y rest e ts h. absurd h })

  -- so many levels
  abbrev pub Low : {A : Type 0} → ℕ → List Token → List Token → Tall A → Type 0
  Low room ts rest x = x.levels ≤ room

  condition_fits : (r : ℕ) → Sound (condition v r) (Low r)
  unfolding condition
  condition_fits r = token_sound (λ u q. bind_sound any (λ e. sound_map (λ mid rest b y ts z. let le = ap (λ (x : Tall Expr). x.levels) y.0 in omega (arith, le, y.1)) (close_fits s.RightParenthesis r e.levels e)))

  -- ---- what `if` tests

  valued_fits : (r : ℕ) → Sound (valued v r) (Low r)
  valued_fits r = bind_sound {p = expression v r} any (λ e. sound_map (λ mid rest b y ts z. let le = ap (λ (x : Tall Choice). x.levels) y.0 in omega (arith, le, y.1)) (close_fits s.RightParenthesis r e.levels (as_value e)))

  tried_fits : (r : ℕ) → Sound (tried v r) (Low r)
  unfolding tried
  tried_fits r = bind_sound {R = Low r} (record { spelled = λ ts p rest e. fits_le r p.levels (address_fits v r ts p rest e) }) (λ p. token_sound (λ u q. pure_sound (λ rest ts y. y)))

  compared_fits : (p : Tall Place) → Sound (compared v p) (Low (suc p.levels))
  unfolding compared
  compared_fits p = commit_sound (λ w. go w (behind_try (seen v w))) refuse_sound
    where
      go : (w : Token) (x : Comparison) → SoundMove (λ mid rest y. Low (suc p.levels) (w ∷ mid) rest y) (compared_by v p x)
      go w comparison.End = go_sound (pure_sound (λ rest. omega arith))
      go w comparison.Equal = go_sound (token_sound (λ a e. token_sound (λ b f. pure_sound (λ rest. omega arith))))
      go w comparison.NotEqual = go_sound (token_sound (λ a e. token_sound (λ b f. pure_sound (λ rest. omega arith))))
      go w comparison.Other = stop_sound

  plain_fits : (r : ℕ) → 0 < r → (u : Token) → Sound (plain v r u) (Low r)
  unfolding plain
  plain_fits r lt u =
      commit_sound (λ t. when_sound (is v s.LeftParenthesis t) (λ e. bind_sound (tried_fits (r - 1)) (λ p. sound_map (λ mid rest x y ts z. omega (arith, lt, y, z)) (compared_fits p))))
      (record { spelled = λ mid x rest e. (valued_fits r).spelled (u ∷ mid) x rest e })

  negated_fits : (r : ℕ) → 1 < r → (u t : Token) → Sound (negated v r u t) (Low r)
  unfolding negated
  negated_fits r lt u t =
      commit_sound (λ w. when_sound (is v s.LeftParenthesis w) (λ e. bind_sound (tried_fits (r - 2)) (λ p. token_sound (λ a f. pure_sound (λ rest ts z. omega (arith, lt, z))))))
      (record { spelled = λ mid x rest e. (valued_fits r).spelled (u ∷ t ∷ mid) x rest e })

  behind_not_fits : (r : ℕ) → 1 < r → (u : Token) → Sound (behind_not v r u) (Low r)
  unfolding behind_not
  behind_not_fits r lt u = commit_sound (λ t. when_sound (is_try (seen v t)) (λ c. sound_map (λ mid rest x y. y) (negated_fits r lt u t))) (record { spelled = λ mid x rest e. (valued_fits r).spelled (u ∷ mid) x rest e })

  asked_fits : (r : ℕ) → Sound (asked v r) (Low r)
  unfolding asked
  asked_fits r = commit_sound (λ u. go r u (asks (seen v u))) (valued_fits r)
    where
      go : (r : ℕ) (u : Token) (x : Question) → SoundMove (λ mid rest y. Low r (u ∷ mid) rest y) (asked_by v r u x)
      go zero u question.TryLock = deep_sound
      go (suc m) u question.TryLock = go_sound (sound_map (λ mid rest x y. y) (plain_fits (suc m) (omega arith) u))
      go zero u question.Not = deep_sound
      go (suc zero) u question.Not = deep_sound
      go (suc (suc m)) u question.Not = go_sound (sound_map (λ mid rest x y. y) (behind_not_fits (suc (suc m)) (omega arith) u))
      go r u question.Expression = stop_sound

  trial_fits : (r : ℕ) → Sound (trial v r) (Low r)
  unfolding trial
  trial_fits r = token_sound (λ u q. sound_map (λ mid rest x y. y) (asked_fits r))

  -- ---- the parts of a `for`

  declared_fits : (r : ℕ) → Sound (declared v r) (Low (suc r))
  unfolding declared
  declared_fits r =
      commit_sound (λ w. named_sound v (Low (suc r)) w (λ n q. token_sound (λ a p. bind_sound any (λ e. sound_map (λ mid rest b y ts z. let le = ap (λ (x : Tall (List Stmt)). x.levels) y.0 in omega (arith, le, y.1)) (close_fits s.Semicolon r e.levels _)))))
      refuse_sound

  first_fits : (r : ℕ) → Sound (first v r) (Low (suc r))
  unfolding first
  first_fits r = commit_sound (λ u. go u (first_start (seen v u))) refuse_sound
    where
      go : (u : Token) (x : Start) → SoundMove (λ mid rest y. Low (suc r) (u ∷ mid) rest y) (first_by v r u x)
      go u f.Nothing = go_sound (pure_sound (λ rest. omega arith))
      go u f.Int = deeper_sound v r (λ m e. declared_fits r)
      go u f.Step = step_fits v s.Semicolon r u

  test_fits : (r : ℕ) → Sound (middle v r) (Low r)
  unfolding middle
  test_fits r =
      commit_sound (λ u. when_sound (is v s.Semicolon u) (λ q. pure_sound {a = tall (tree.Number 1) 0} (λ rest. omega arith)))
      (bind_sound {p = expression v r} any (λ e. sound_map (λ mid rest b y ts z. let le = ap (λ (x : Tall Expr). x.levels) y.0 in omega (arith, le, y.1)) (close_fits s.Semicolon r e.levels e)))

  last_fits : (r : ℕ) → Sound (last v r) (Low (suc r))
  unfolding last
  last_fits r = commit_sound (λ u. go u (is v s.RightParenthesis u)) refuse_sound
    where
      go : (u : Token) (b : Bool) → SoundMove (λ mid rest y. Low (suc r) (u ∷ mid) rest y) (cond b (Go (pure nothing)) (step_by v s.RightParenthesis r u))
      go u true = go_sound (pure_sound (λ rest. omega arith))
      go u false = step_fits v s.RightParenthesis r u

  -- ---- statements

  module _ (kind : Kind) where
    module _ (r : ℕ) (lower : Token → Move Token (Tall (List Stmt))) (h : (u : Token) → SoundMove (λ mid rest x. Low r (u ∷ mid) rest x) (lower u)) where
      block_fits : Sound (block v lower) (Low r)
      unfolding block
      block_fits =
          bind_sound {R = Low r} (sound_map (λ mid rest b y. y mid (omega arith)) (many_sound {Item = Low r} {All = Low r} lower followed (λ ts mid rest all x l i. omega (arith, l, i)) h nothing))
          (λ all. token_sound (λ u q. pure_sound (λ rest ts y. y)))

      arm_fits : Sound (arm v lower) (Low r)
      unfolding arm
      arm_fits = commit_sound (λ u. go u (is v s.LeftBrace u)) refuse_sound
        where
          go : (u : Token) (b : Bool) → SoundMove (λ mid rest x. Low r (u ∷ mid) rest x) (cond b (Go (block v lower)) (lower u))
          go u true = go_sound (sound_map (λ mid rest x y. y) block_fits)
          go u false = h u

      choice_fits : (at_line : ℕ) → Sound (choice v r lower at_line) (Low (suc r))
      unfolding choice
      choice_fits at_line =
          bind_sound (trial_fits r) (λ e. bind_sound arm_fits (λ one. commit_sound
          (λ w. when_sound (is_else (seen v w)) (λ q. bind_sound arm_fits (λ two. pure_sound (λ rest next z mid y ts x. omega (arith, x, y, z)))))
          (pure_sound (λ rest mid y ts x. omega (arith, x, y)))))

      repetition_fits : (at_line : ℕ) → Sound (repetition v r lower at_line) (Low (suc r))
      unfolding repetition
      repetition_fits at_line = bind_sound (condition_fits r) (λ e. bind_sound arm_fits (λ body. pure_sound (λ rest mid y ts x. omega (arith, x, y))))

      counting_fits : (at_line : ℕ) → Sound (counting v r lower at_line) (Low (suc r))
      unfolding counting
      counting_fits at_line = token_sound (λ p q. bind_sound (first_fits r) (λ one. bind_sound (test_fits r) (λ e. bind_sound (last_fits r) (λ two. bind_sound arm_fits (λ body. pure_sound (λ rest t4 a t3 b t2 c t1 d. omega (arith, a, b, c, d)))))))

    lowest_fits : (u : Token) (x : Opening) → SoundMove (λ mid rest y. Low zero (u ∷ mid) rest y) (statement_in v kind zero (λ _. Stop) u x)
    lowest_fits u o.Empty = go_sound (pure_sound (λ rest. omega arith))
    lowest_fits u o.If = deep_sound
    lowest_fits u o.While = deep_sound
    lowest_fits u o.For = deep_sound
    lowest_fits u o.Simple = go (begins_simple v u)
      where
        go : (b : Bool) → SoundMove {Token = Token} {A = Tall (List Stmt)} (λ mid rest y. Low zero (u ∷ mid) rest y) (cond b Deep Stop)
        go true = deep_sound
        go false = stop_sound

    if_fits : (r : ℕ) (lower : Token → Move Token (Tall (List Stmt))) → ((u : Token) → SoundMove (λ mid rest x. Low r (u ∷ mid) rest x) (lower u)) → (u : Token)
        → SoundMove (λ mid rest y. Low (suc r) (u ∷ mid) rest y) (statement_in v kind (suc r) lower u o.If)
    if_fits zero lower h u = deep_sound
    if_fits (suc m) lower h u = go_sound (sound_map (λ mid rest y z. z) (choice_fits (suc m) lower h (line v u)))

    while_fits : (r : ℕ) (lower : Token → Move Token (Tall (List Stmt))) → ((u : Token) → SoundMove (λ mid rest x. Low r (u ∷ mid) rest x) (lower u)) → (u : Token)
        → SoundMove (λ mid rest y. Low (suc r) (u ∷ mid) rest y) (statement_in v kind (suc r) lower u o.While)
    while_fits zero lower h u = deep_sound
    while_fits (suc m) lower h u = go_sound (sound_map (λ mid rest y z. z) (repetition_fits (suc m) lower h (line v u)))

    higher_fits : (r : ℕ) (lower : Token → Move Token (Tall (List Stmt))) → ((u : Token) → SoundMove (λ mid rest x. Low r (u ∷ mid) rest x) (lower u)) → (u : Token) (x : Opening)
        → SoundMove (λ mid rest y. Low (suc r) (u ∷ mid) rest y) (statement_in v kind (suc r) lower u x)
    higher_fits r lower h u o.Empty = go_sound (pure_sound (λ rest. omega arith))
    higher_fits r lower h u o.If = if_fits r lower h u
    higher_fits r lower h u o.While = while_fits r lower h u
    higher_fits r lower h u o.For = go_sound (sound_map (λ mid rest y z. z) (counting_fits r lower h (line v u)))
    higher_fits r lower h u o.Simple = simple_fits v kind r u

    -- every statement that is read fits
    pub statement_fits : (room : ℕ) (u : Token) → SoundMove (λ mid rest x. Low room (u ∷ mid) rest x) (statement_by v kind room u)
    unfolding statement_by
    statement_fits zero u = lowest_fits u (statement_opening (seen v u))
    statement_fits (suc r) u = higher_fits r (statement_by v kind r) (statement_fits r) u (statement_opening (seen v u))

  -- ---- bodies

  module _ (room : ℕ) where
    -- what is behind a body that fits makes one that fits
    abbrev pub Keeps : Tall Body → List Token → List Token → Tall Body → Type 0
    Keeps b ts rest c = b.levels ≤ room → c.levels ≤ room

    stated_by_fits : (kind : Kind) (b : Tall Body) (u : Token) → SoundMove (λ mid rest c. Keeps b (u ∷ mid) rest c) (stated_by v kind room b u)
    stated_by_fits kind b u = and_go_sound (statement_fits kind room u) (λ x. pure_sound (λ rest mid y z. omega (arith, y, z)))

    stated_fits : (kind : Kind) (b : Tall Body) → Sound (stated v kind room b) (Keeps b)
    stated_fits kind b = bind_sound {R = Low room} (commit_sound (statement_fits kind room) refuse_sound) (λ x. pure_sound (λ rest mid y z. omega (arith, y, z)))

    with_slots_fits : (b : Tall Body) (u : Token) → SoundMove (λ mid rest c. Keeps b (u ∷ mid) rest c) (with_slots_by v b u)
    with_slots_fits b u = named_sound v (Keeps b) u (λ n q. bind_sound any (λ all. pure_sound (λ rest ts y z. z)))

    static_fits : (b : Tall Body) → Sound (static_threads v b) (Keeps b)
    unfolding static_threads
    static_fits b = token_sound (λ w q. sound_map (λ mid rest c y. y) (commit_sound {R = Keeps b} (with_slots_fits b) refuse_sound))

    threads_fits : (kind : Kind) (b : Tall Body) (u : Token) → Sound (threads v kind room b u) (Keeps b)
    unfolding threads
    threads_fits kind b u = commit_sound (with_slots_fits b) (record { spelled = λ mid c rest e. (stated_fits kind b).spelled (u ∷ mid) c rest e })

    main_fits : (kind : Kind) (b : Tall Body) (u : Token) (x : Thread) → SoundMove (λ mid rest c. Keeps b (u ∷ mid) rest c) (main_by v kind room b u x)
    main_fits kind b u t.Static = when_sound v.threads (λ e. sound_map (λ mid rest c y. y) (static_fits b))
    main_fits kind b u t.Type = go_sound (sound_map (λ mid rest c y. y) (threads_fits kind b u))
    main_fits kind b u t.Other = stated_by_fits kind b u

    turn_fits : (kind : Kind) (b : Tall Body) (u : Token) → SoundMove (λ mid rest c. Keeps b (u ∷ mid) rest c) (body_by v kind room b u)
    turn_fits kinds.Main b u = main_fits kinds.Main b u (thread_opening (seen v u))
    turn_fits kind b u = stated_by_fits kind b u

    -- every body that is read fits
    pub body_fits : (kind : Kind) → Sound (body v kind room) (λ ts rest b. b.levels ≤ room)
    body_fits kind = sound_map (λ mid rest b y. y mid (omega arith)) (loop_sound {R = λ ts rest b. b.levels ≤ room} (λ b u. move_map (λ ts rest c y z le. y le) (turn_fits kind b u)) empty_body)
