-- Every statement that is begun can be completed, and the failing token is told from the first on.
use Rattle.std.proofs.Common.{◌≡◌, ℕ, zero, suc, ◌<◌, ◌≤◌, Bool, true, false, cond, List, [], ◌∷◌, ◌++◌, Option, Some, None, refl, sym, subst, ◌∙◌, append_assoc, arith}
use Rattle.c_lexer.specs.declared.token.Sign.{Sign}
use Rattle.c_lexer.specs.declared.token.Sign.TheVariants as signs
use Rattle.c_tree.specs.declared.program.Kind.{Kind}
use Rattle.c_tree.specs.Expressions as tree
use Rattle.c_tree.specs.Expressions.{Expr}
use Rattle.c_tree.specs.Lined as lined
use Rattle.c_tree.specs.Lined.{Stmt}
use Rattle.c_grammar.specs.Items.{What, name_of}
use Rattle.c_grammar.specs.Levels.{Tall, tall, nothing, alone, followed}
use Rattle.c_grammar.specs.Statements.{Choice, chosen, repeated, counted}
use Rattle.parse_laws.specs.Parser.{Got, Parser, ◌>>=◌, pure, Move, Stop, Deep, Go, must}
use Rattle.parse_laws.proofs.Rooms.{by_room}
use Rattle.parse_laws.proofs.Says.{Quiet, Live}
use Rattle.parse_laws.proofs.Viable.{Viable, Follows, ViableMove, stops, sinks, goes, Within, Stops, Takes, follows_viable, pure_viable, pure_follows, bind_viable, bind_follows, fallback_follows, choice_viable, choice_follows, option_follows, lower_viable, stop_move, go_move, when_move, deeper_move, must_viable, must_follows}
use Rattle.parse_laws.proofs.Loops.{many_follows}
use Rattle.parse_laws.proofs.Completes.{lowered, after_local, after_viable}
use Rattle.c_expressions.specs.Words.{same_sign}
use Rattle.c_expressions.specs.Parsers.{Sight, seen, is, go_named, fits, close, expression}
use Rattle.c_expressions.proofs.Shorter.{less_pure, less_close, fewer_bind, fewer_expression_of}
use Rattle.c_expressions.proofs.Words.{SeenAs, Words}
use Rattle.c_expressions.proofs.Closers.{closes, is_itself, close_after}
use Rattle.c_expressions.proofs.Readings.{right_closes, semicolon_closes}
use Rattle.c_expressions.proofs.Parts.{expression_steady, expression_completes}
use Rattle.c_simple.specs.Parsers.{line, step_by, simple_by, begins_simple}
use Rattle.c_simple.proofs.Completes.{simple_moves, step_moves}
use Rattle.c_simple.proofs.Begins.{simple_acts, simple_stops}
use Rattle.c_statements.specs.declared.word.Opening.{Opening}
use Rattle.c_statements.specs.declared.word.Opening.TheVariants as o
use Rattle.c_statements.specs.declared.word.Start.{Start}
use Rattle.c_statements.specs.declared.word.Start.TheVariants as f
use Rattle.c_statements.specs.Words.{statement_opening, first_start, is_else}
use Rattle.c_statements.specs.Parsers.{condition, initial_value, declared, first_by, first, given_test, middle, last, block, arm_by, arm, else_by, else_arm, choice, repetition, counting, simple_in, statement_in, statement_by, lower_in}
use Rattle.c_statements.proofs.Openings.{statement_is, empty_is, statement_stops}
use Rattle.c_statements.proofs.Trials.{always, level_move, trial_viable}
use Rattle.c_statements.proofs.Tokens.{other_than_else, no_else_is, sign_no_else, right_brace}

-- ---- moves

module _ {Token A : Type 0} {ends : Token → Bool} where
  -- what goes in a room goes in the next with one level less
  move_up : {m : ℕ} {k l : ℕ → Move Token A} → ((s : ℕ) → l (suc s) ≡ k s) → ViableMove ends m k → ViableMove ends (suc m) l
  move_up {m = m} {k = k} {l = l} e (stops f) = stops go
    where
      go : (s : ℕ) → suc m ≤ s → l s ≡ Stop
      go zero le = absurd (omega arith)
      go (suc s) le = e s ∙ f s (omega arith)
  move_up {m = m} e (sinks d s le p f live) = sinks (e m ∙ d) (suc s) (omega arith) p (e s ∙ f) live
  move_up {m = m} {k = k} {l = l} e (goes p f v) = goes (lowered p) go (lower_viable (λ s z. refl) v)
    where
      go : (s : ℕ) → suc m ≤ s → l s ≡ Go (lowered p s)
      go zero le = absurd (omega arith)
      go (suc s) le = e s ∙ f s (omega arith)

  -- a token that opens a level on which a part stands that needs one more
  twice_move : {k : ℕ → Move Token A} {p : ℕ → Parser Token A} → k 0 ≡ Deep → k 1 ≡ Deep → ((s : ℕ) → k (suc (suc s)) ≡ Go (p (suc s))) → Live ends (λ z o. p 1 z ≡ o)
      → (r : ℕ) → ((m : ℕ) → r ≡ suc (suc m) → Viable ends (suc m) p) → ViableMove ends r k
  twice_move {k = k} {p = p} zeroth first go live zero h = sinks zeroth 2 (omega arith) (p 1) (go 0) live
  twice_move {k = k} {p = p} zeroth first go live (suc zero) h = sinks first 2 (omega arith) (p 1) (go 0) live
  twice_move {k = k} {p = p} zeroth first go live (suc (suc m)) h = goes (lowered p) same (lower_viable (λ s z. refl) (h m refl))
    where
      same : (s : ℕ) → suc (suc m) ≤ s → k s ≡ Go (lowered p s)
      same zero le = absurd (omega arith)
      same (suc zero) le = absurd (omega arith)
      same (suc (suc s)) le = go s

-- a statement ends before each token but `else`
abbrev pub no_else : {Token : Type 0} → Sight Token → Token → Bool
no_else v u = other_than_else (seen v u)

module _ {Token : Type 0} (v : Sight Token) (words : Words v) (nought : SeenAs v (λ a. a ≡ What.Number 0)) where
  -- ---- what `while` tests

  ended_viable : {A : Type 0} {ends : Token → Bool} (x : Sign) → closes v (words.sign x) ≡ true → (make : Tall Expr → A) (r : ℕ) → 0 < r → Viable ends r (λ s. expression v s >>= λ e. close v x (fits s e.levels) (pure (make e)))
  ended_viable x c make r lt = after_viable (expression_completes v words r lt) (close_after v words x c (λ e. pure_viable))

  condition_viable : {ends : Token → Bool} (r : ℕ) → 0 < r → Viable ends r (λ s. condition v s)
  unfolding condition
  condition_viable r lt = must_viable (is v signs.LeftParenthesis) (words.sign signs.LeftParenthesis) (is_itself v words signs.LeftParenthesis) (ended_viable signs.RightParenthesis (right_closes v words) (λ e. e) r lt)

  -- ---- the parts of a `for`, with the sign behind them

  declared_viable : {ends : Token → Bool} (r : ℕ) → 0 < r → Viable ends r (λ s. declared v s)
  unfolding declared
  declared_viable {ends} r lt = choice_viable (λ u. go u (name_of (seen v u))) words.name (λ s le. rw words.name_is refl) (assigned words.name words.letters)
    where
      assigned : (u : Token) (n : List ℕ) → Viable ends r (λ s. must (is v signs.Assign) (initial_value v s (line v u) n))
      assigned u n = must_viable (is v signs.Assign) (words.sign signs.Assign) (is_itself v words signs.Assign) (ended_viable signs.Semicolon (semicolon_closes v words) (λ e. alone (lined.Declare (line v u) n (Some e.tree)) e.levels) r lt)

      go : (u : Token) (n : Option (List ℕ)) → ViableMove ends r (λ s. go_named (λ n. must (is v signs.Assign) (initial_value v s (line v u) n)) n)
      go u None = stop_move
      go u (Some n) = go_move (assigned u n)

  first_viable : {ends : Token → Bool} (r : ℕ) → Viable ends r (λ s. first v s)
  unfolding first
  first_viable {ends} r = choice_viable (λ u. go u (first_start (seen v u))) (words.sign signs.Semicolon) (λ s le. rw (words.sign_is signs.Semicolon) refl) (pure_viable {a = nothing})
    where
      go : (u : Token) (x : Start) → ViableMove ends r (λ s. first_by v s u x)
      go u f.Nothing = go_move pure_viable
      go u f.Int = level_move declared_viable r
      go u f.Step = step_moves v words nought signs.Semicolon refl r u

  given_takes : (r : ℕ) → Takes (given_test v r)
  given_takes r ts a e = let lt = (fewer_bind (fewer_expression_of v r) (λ e. less_close v signs.Semicolon (fits r e.levels) (less_pure {a = e}))).spelled ts a ts e in absurd (omega (arith, lt))

  test_follows : {ends : Token → Bool} (r : ℕ) → Follows always ends r (λ s. middle v s)
  unfolding middle
  test_follows {ends} r =
      fallback_follows (λ u. when_move (is v signs.Semicolon u) (λ e. pure_viable)) (given_takes r) (after_local (expression_steady v words r) (close_after v words signs.Semicolon (semicolon_closes v words) (λ e. pure_viable)))
      (words.sign signs.Semicolon) refl (λ s le. rw (is_itself v words signs.Semicolon) refl) (pure_viable {a = tall (tree.Number 1) 0})

  last_follows : {ends : Token → Bool} (r : ℕ) → Follows always ends r (λ s. last v s)
  unfolding last
  last_follows {ends} r = choice_follows (λ u. go u (is v signs.RightParenthesis u)) (words.sign signs.RightParenthesis) refl (λ s le. rw (is_itself v words signs.RightParenthesis) refl) (pure_viable {a = nothing})
    where
      go : (u : Token) (b : Bool) → ViableMove ends r (λ s. cond b (Go (pure nothing)) (step_by v signs.RightParenthesis s u))
      go u true = go_move pure_viable
      go u false = step_moves v words nought signs.RightParenthesis refl r u

  -- ---- statements

  module _ (kind : Kind) where
    abbrev K : ℕ → Token → Move Token (Tall (List Stmt))
    K room = statement_by v kind room

    abbrev Moves : ℕ → Type 0
    Moves r = (u : Token) → ViableMove (no_else v) r (λ s. K s u)

    -- a closing brace ends a list
    brace_within : Within (no_else v) (is v signs.RightBrace)
    brace_within u e = sign_no_else signs.RightBrace (seen v u) e

    brace_stop : Stops (is v signs.RightBrace) (λ s u. K s u)
    brace_stop s u e = statement_stops v kind s u (right_brace (seen v u) e).0

    module _ (r : ℕ) (moves : Moves r) where
      block_viable : {ends : Token → Bool} → Viable ends r (λ s. block v (K s))
      unfolding block
      block_viable = bind_viable (follows_viable {before = is v signs.RightBrace} (many_follows followed nothing (λ u e. e) brace_within brace_stop moves)) (λ all. must_follows (is v signs.RightBrace) (words.sign signs.RightBrace) (is_itself v words signs.RightBrace) (is_itself v words signs.RightBrace) pure_viable)

      arm_moves : (u : Token) → ViableMove (no_else v) r (λ s. arm_by v (K s) u)
      arm_moves u = go (is v signs.LeftBrace u)
        where
          go : (b : Bool) → ViableMove (no_else v) r (λ s. cond b (Go (block v (K s))) (K s u))
          go true = go_move block_viable
          go false = moves u

      arm_viable : Viable (no_else v) r (λ s. arm v (K s))
      unfolding arm
      arm_viable = choice_viable arm_moves (words.sign signs.LeftBrace) (λ s le. rw (is_itself v words signs.LeftBrace) refl) block_viable

      arm_follows : Follows always (no_else v) r (λ s. arm v (K s))
      unfolding arm
      arm_follows = choice_follows arm_moves (words.sign signs.LeftBrace) refl (λ s le. rw (is_itself v words signs.LeftBrace) refl) block_viable

      else_stop : (l : ℕ) (e : Tall Choice) (one : Tall (List Stmt)) → Stops (no_else v) (λ s u. else_by v (K s) l e one u)
      else_stop l e one s u h = rw (no_else_is (seen v u) h) refl

      choice_is_viable : (l : ℕ) → 0 < r → Viable (no_else v) r (λ s. choice v s (K s) l)
      unfolding choice
      choice_is_viable l lt =
          bind_viable (trial_viable v words nought {ends = always} r lt) (λ e. bind_follows arm_follows (λ one. option_follows (λ u h. h) (else_stop l e one)
          (λ u. when_move (is_else (seen v u)) (λ h. bind_viable arm_viable (λ two. pure_follows (λ w q. q))))))

      repetition_viable : (l : ℕ) → 0 < r → Viable (no_else v) r (λ s. repetition v s (K s) l)
      unfolding repetition
      repetition_viable l lt = bind_viable (condition_viable {ends = always} r lt) (λ e. bind_follows arm_follows (λ body. pure_follows (λ w q. q)))

      counting_viable : (l : ℕ) → Viable (no_else v) r (λ s. counting v s (K s) l)
      unfolding counting
      counting_viable l =
          must_viable (is v signs.LeftParenthesis) (words.sign signs.LeftParenthesis) (is_itself v words signs.LeftParenthesis)
          (bind_viable (first_viable {ends = always} r) (λ one. bind_follows (test_follows {ends = always} r) (λ e. bind_follows (last_follows {ends = always} r) (λ two. bind_follows arm_follows (λ body. pure_follows (λ w q. q))))))

    -- ---- words of statements that hold others

    arm_reads : (room : ℕ) (z : List Token) → arm v (K room) (words.sign signs.Semicolon ∷ z) ≡ Got nothing z
    unfolding arm same_sign
    arm_reads room z = rw (words.sign_is signs.Semicolon, empty_is v kind room (words.sign signs.Semicolon) (rw (words.sign_is signs.Semicolon) refl)) refl

    first_reads : (r : ℕ) (z : List Token) → first v r (words.sign signs.Semicolon ∷ z) ≡ Got nothing z
    unfolding first
    first_reads r z = rw (words.sign_is signs.Semicolon) refl

    test_reads : (r : ℕ) (z : List Token) → middle v r (words.sign signs.Semicolon ∷ z) ≡ Got (tall (tree.Number 1) 0) z
    unfolding middle
    test_reads r z = rw (is_itself v words signs.Semicolon) refl

    last_reads : (r : ℕ) (z : List Token) → last v r (words.sign signs.RightParenthesis ∷ z) ≡ Got nothing z
    unfolding last
    last_reads r z = rw (is_itself v words signs.RightParenthesis) refl

    else_reads : (room l : ℕ) (e : Tall Choice) (one : Tall (List Stmt)) (z : List Token) → Quiet (no_else v) z → else_arm v (K room) l e one z ≡ Got (chosen l e one nothing) z
    else_reads room l e one [] q = refl
    else_reads room l e one (u ∷ z) q = rw (no_else_is (seen v u) q) refl

    counting_live : (l : ℕ) → Live (no_else v) (λ z o. counting v 0 (K 0) l z ≡ o)
    unfolding counting
    counting_live l = record {
      word = words.sign signs.LeftParenthesis ∷ words.sign signs.Semicolon ∷ words.sign signs.Semicolon ∷ words.sign signs.RightParenthesis ∷ words.sign signs.Semicolon ∷ [];
      value = counted l nothing (tall (tree.Number 1) 0) nothing nothing;
      reads = λ z q. rw (is_itself v words signs.LeftParenthesis, first_reads 0 (words.sign signs.Semicolon ∷ words.sign signs.RightParenthesis ∷ words.sign signs.Semicolon ∷ z), test_reads 0 (words.sign signs.RightParenthesis ∷ words.sign signs.Semicolon ∷ z), last_reads 0 (words.sign signs.Semicolon ∷ z), arm_reads 0 z) refl;
    }

    choice_live : (l : ℕ) → Live (no_else v) (λ z o. choice v 1 (K 1) l z ≡ o)
    unfolding choice
    choice_live l =
        let c = (trial_viable v words nought {ends = always} 1 (omega arith)).live 1 (omega arith) in
        record {
          word = c.word ++ words.sign signs.Semicolon ∷ [];
          value = chosen l c.value nothing nothing;
          reads = λ z q. rw (append_assoc c.word (words.sign signs.Semicolon ∷ []) z, c.reads (words.sign signs.Semicolon ∷ z) refl, arm_reads 1 z) (else_reads 1 l c.value nothing z q);
        }

    repetition_live : (l : ℕ) → Live (no_else v) (λ z o. repetition v 1 (K 1) l z ≡ o)
    unfolding repetition
    repetition_live l =
        let c = (condition_viable {ends = always} 1 (omega arith)).live 1 (omega arith) in
        record {
          word = c.word ++ words.sign signs.Semicolon ∷ [];
          value = repeated l c.value nothing;
          reads = λ z q. rw (append_assoc c.word (words.sign signs.Semicolon ∷ []) z, c.reads (words.sign signs.Semicolon ∷ z) refl, arm_reads 1 z) refl;
        }

    -- ---- the tower

    -- a simple statement
    lowest_move : (u : Token) (b : Bool) → begins_simple v u ≡ b → ViableMove (no_else v) 0 (λ s. simple_in v kind s u)
    lowest_move u false e = stops go
      where
        go : (s : ℕ) → 0 ≤ s → simple_in v kind s u ≡ Stop
        go zero le = rw e refl
        go (suc s) le = simple_stops v kind s u e
    lowest_move u true e = go (simple_moves v words nought kind 0 u)
      where
        deep : simple_in v kind 0 u ≡ Deep
        deep = rw e refl

        go : ViableMove (no_else v) 0 (λ s. simple_by v kind s u) → ViableMove (no_else v) 0 (λ s. simple_in v kind s u)
        go (stops f) = absurd (simple_acts v kind 0 u e (f 0 (omega arith)))
        go (sinks d s le p f live) = sinks deep (suc s) (omega arith) p f live
        go (goes p f w) = sinks deep 1 (omega arith) (p 0) (f 0 (omega arith)) (w.live 0 (omega arith))

    simple_move : (r : ℕ) (u : Token) → ViableMove (no_else v) r (λ s. simple_in v kind s u)
    simple_move zero u = lowest_move u (begins_simple v u) refl
    simple_move (suc m) u = move_up (λ s. refl) (simple_moves v words nought kind m u)

    step : (r : ℕ) → ((m : ℕ) → r ≡ suc m → Moves m) → (u : Token) (x : Opening) → ViableMove (no_else v) r (λ s. statement_in v kind s (lower_in v kind s) u x)
    step r h u o.Empty = go_move pure_viable
    step r h u o.If = twice_move {p = λ t. choice v t (K t) (line v u)} refl refl (λ s. refl) (choice_live (line v u)) r (λ m e. choice_is_viable (suc m) (h (suc m) e) (line v u) (omega arith))
    step r h u o.While = twice_move {p = λ t. repetition v t (K t) (line v u)} refl refl (λ s. refl) (repetition_live (line v u)) r (λ m e. repetition_viable (suc m) (h (suc m) e) (line v u) (omega arith))
    step r h u o.For = deeper_move {p = λ t. counting v t (K t) (line v u)} refl (λ s. refl) (counting_live (line v u)) (λ m e. counting_viable m (h m e) (line v u))
    step r h u o.Simple = simple_move r u

    is_in : (s : ℕ) (u : Token) → statement_in v kind s (lower_in v kind s) u (statement_opening (seen v u)) ≡ K s u
    is_in s u = sym (statement_is v kind s u)

    -- every statement that is begun can be completed
    pub statement_moves : (r : ℕ) → Moves r
    statement_moves = by_room Moves (λ r h u. subst (λ (k : ℕ → Move Token (Tall (List Stmt))). ViableMove (no_else v) r k) (λ i s. is_in s u i) (step r h u (statement_opening (seen v u))))
