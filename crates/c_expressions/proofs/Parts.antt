-- What statements are made of can be completed: expressions and lists of them, places, calls and the argument of a thread.
--
-- An expression and a list may read a value that doesn't fit, so they complete, with what closes them, by `after_viable`. A
-- place, the arguments of a call and a call end in a token of their own, or read nothing that doesn't fit: they are viable.
use Rattle.std.proofs.Common.{◌≡◌, ℕ, zero, suc, max, ◌<◌, ◌≤◌, Bool, true, false, cond, List, [], ◌∷◌, Option, Some, None, refl, ap, arith}
use Rattle.c_lexer.specs.declared.token.Sign.TheVariants as signs
use Rattle.c_tree.specs.Expressions as tree
use Rattle.c_tree.specs.Expressions.{Expr, Exprs, Place}
use Rattle.c_grammar.specs.declared.words.FixedWord.TheVariants as w
use Rattle.c_grammar.specs.Items.{What, name_of, callee}
use Rattle.c_grammar.specs.Levels.{Tall, tall}
use Rattle.c_grammar.specs.Expressions.{loosest}
use Rattle.parse_laws.specs.Parser.{Got, pure, Stop, Go, when, deeper}
use Rattle.parse_laws.specs.Operators.{chain}
use Rattle.parse_laws.proofs.Viable.{Viable, Takes}
use Rattle.parse_laws.proofs.After.{Steady, Completes, CompletesMove, Behind, then_steady, then_completes, tells_then}
use Rattle.parse_laws.proofs.Completes.{completes_viable, pure_steady, when_completes, goes_fine, pure_completes, pure_behind, behind_of, commit_steady, choice_steady, choice_completes, lowered, lower_completes, stop_completes, go_completes, deeper_completes, must_completes}
use Rattle.parse_laws.proofs.Chains.{loop_starts, loop_behind, level_steady}
use Rattle.c_expressions.specs.Words.{Head, head, by_name}
use Rattle.c_expressions.specs.Parsers.{Sight, seen, is, go_named, named, fits, fitting, close, as_arguments, begins, expression, place_behind, place, address, member, scalar, one_expression, with_expression, added, comma_by, more_expressions, expressions, no_arguments, some_arguments, arguments, call_behind, call, unary, may_open, opened, cast_by, cast_unary, is_void, void_cast, argument_by, argument, expressions_of, lower_in}
use Rattle.c_expressions.proofs.Shorter.{fewer_operand, below_fewer, fewer_chain, fewer_bind, fewer_expression_of, less_loop, less_bind, less_pure, less_close, less_close_by, fewer_less}
use Rattle.c_expressions.proofs.Lists.{comma_shrinks}
use Rattle.c_expressions.proofs.Words.{Words}
use Rattle.c_expressions.proofs.Closers.{closes, closes_list, closer_no_comma, list_within, fit, low, fits_of, fits_le, is_itself, fitting_completes, close_behind}
use Rattle.c_expressions.proofs.Readings.{number, chain_ends, chain_refuses, begun, number_operand}
use Rattle.c_expressions.proofs.Operands.{Beneath, inside_fits, behind_completes, operand_completes, open_completes, levels}

-- a name is read as one, also by an operand
pub head_of_name : (a : What) (n : List ℕ) → name_of a ≡ Some n → head a ≡ Head.Word n
head_of_name (What.Name m) n e = let same : m ≡ n = cc in rw same refl
head_of_name (What.Fixed word) n e = rw e refl
head_of_name _ n e = absurd cc

-- and so is a name that may be called
pub head_of_callee : (a : What) (n : List ℕ) → callee a ≡ Some n → head a ≡ Head.Word n
head_of_callee (What.Name m) n e = let same : m ≡ n = cc in rw same refl
head_of_callee (What.Fixed w.Main) n e = ap by_name e
head_of_callee (What.Fixed w.Parameter) n e = ap by_name e
head_of_callee (What.Fixed w.ConditionParameter) n e = ap by_name e
head_of_callee (What.Fixed w.MutexParameter) n e = ap by_name e
head_of_callee _ n e = absurd cc

module _ {Token : Type 0} (v : Sight Token) (words : Words v) where
  beneath : (r : ℕ) → Beneath v r
  beneath r m e = levels v words m

  -- ---- expressions

  -- In the room 0 no expression fits.
  pub expression_steady : (r : ℕ) → Steady fit (closes v) r (λ s. expression v s)
  expression_steady r = level_steady (begins v) (λ m e. (inside_fits v r (beneath r) (omega (arith, e))).steady) (begun v words) (λ z. refl) (λ s. chain_ends v s loosest) (λ s u rest b. chain_refuses v s loosest u rest b)

  pub expression_completes : (r : ℕ) → 0 < r → Completes fit (closes v) r (λ s. expression v s)
  expression_completes r lt = inside_fits v r (beneath r) lt

  -- behind its first token, which is a name
  pub expression_after : (u : Token) (n : List ℕ) → head (seen v u) ≡ Head.Word n → (r : ℕ) → 0 < r → Completes fit (closes v) r (λ s z. expression v s (u ∷ z))
  expression_after u n e zero lt = absurd (omega arith)
  expression_after u n e (suc m) lt = lower_completes {small = low} {p = λ s z. chain (expressions_of v) s loosest (u ∷ z)} (λ s z. refl) (λ s a. refl) ((levels v words m).behind u n e loosest)

  -- ---- places

  module _ {ends : Token → Bool} (other : (u : Token) → ends u ≡ true → is v signs.LeftBracket u ≡ false) (r : ℕ) where
    -- a place fits
    pub place_behind_completes : (n : List ℕ) → Completes fit ends r (λ s. place_behind v s n)
    place_behind_completes n = behind_completes v words (member n) (λ s e d. d) other (scalar n) (λ s. fits_of s 0 (omega arith)) r (beneath r)

    place_moves : (u : Token) → CompletesMove fit ends r (λ s. named v (place_behind v s) u)
    place_moves u = go (name_of (seen v u))
      where
        go : (o : Option (List ℕ)) → CompletesMove fit ends r (λ s. go_named (place_behind v s) o)
        go None = stop_completes
        go (Some n) = go_completes (place_behind_completes n)

    pub place_completes : Completes fit ends r (λ s. place v s)
    unfolding place
    place_completes = choice_completes place_moves words.name (λ s le. rw words.name_is refl) (place_behind_completes words.letters)

    pub address_completes : Completes fit ends r (λ s. address v s)
    unfolding address
    address_completes = must_completes (is v signs.Ampersand) (words.sign signs.Ampersand) (is_itself v words signs.Ampersand) place_completes

    pub place_behind_viable : (n : List ℕ) → Viable ends r (λ s. place_behind v s n)
    place_behind_viable n = completes_viable (place_behind_completes n)

    pub place_viable : Viable ends r (λ s. place v s)
    place_viable = completes_viable place_completes

    pub address_viable : Viable ends r (λ s. address v s)
    address_viable = completes_viable address_completes

  -- ---- lists of expressions

  with_fits : (s : ℕ) (all : Tall (List Expr)) (e : Tall Expr) → fit s all ≡ true → fit s e ≡ true → fit s (with_expression all e) ≡ true
  with_fits s all e x y = let a = fits_le s all.levels x in let b = fits_le s e.levels y in fits_of s (max all.levels e.levels) (omega (arith, a, b))

  added_completes : (r : ℕ) → 0 < r → (all : Tall (List Expr)) → fit r all ≡ true → Completes fit (closes v) r (λ s. added v s all)
  added_completes r lt all e = then_completes (expression_completes r lt) (pure_behind (λ u d. d) (λ s le x d. let a = fits_le r all.levels e in with_fits s all x (fits_of s all.levels (omega (arith, a, le))) d))

  comma_moves : (r : ℕ) → 0 < r → (all : Tall (List Expr)) (u : Token) → CompletesMove fit (closes v) r (λ s. comma_by v s all u)
  comma_moves r lt all u = go (is v signs.Comma u)
    where
      go : (b : Bool) → CompletesMove fit (closes v) r (λ s. cond b (fitting (fits s all.levels) (added v s all)) Stop)
      go true = fitting_completes (λ s. s) (λ s t le. le) (λ s. omega arith) all.levels (λ e. (added_completes r lt all e).steady) (λ s le e. (added_completes s (omega (arith, lt, le)) all e).live s (omega arith))
      go false = stop_completes

  comma_stops : (s : ℕ) (all : Tall (List Expr)) (u : Token) → closes_list v u ≡ true → comma_by v s all u ≡ Stop
  comma_stops s all u e = rw (closer_no_comma v u e) refl

  pub expressions_completes : (r : ℕ) → 0 < r → Completes fit (closes_list v) r (λ s. expressions v s)
  unfolding expressions
  expressions_completes r lt =
      then_completes (expression_completes r lt) (behind_of one_expression (λ s le a e. e) (loop_behind {fits = fit} {k = λ s. comma_by v s} (list_within v) comma_stops (comma_shrinks v) (comma_moves r lt) (list_within v)))

  pub expressions_steady : (r : ℕ) → Steady fit (closes_list v) r (λ s. expressions v s)
  unfolding expressions
  expressions_steady zero = record {
    tells = λ ts. tells_then fit fit {before = closes v} {ends = closes_list v} (λ s. expression v s) {f = λ s e. more_expressions v s (one_expression e)} (λ s le a e. loop_starts comma_stops fit (list_within v) s (one_expression a) e) (λ mid a rest c e d. list_within v) ts
        (expression v 0 ts) ((expression_steady 0).tells ts) (λ a rest e. absurd cc);
  }
  expressions_steady (suc m) = (expressions_completes (suc m) (omega arith)).steady

  -- ---- calls

  arguments_behind : (ends : Token → Bool) (r : ℕ) → Behind fit fit (closes_list v) ends r (λ s all. close v signs.RightParenthesis (fits s all.levels) (pure (as_arguments all)))
  arguments_behind ends r = close_behind v words signs.RightParenthesis (rw (words.sign_is signs.RightParenthesis) refl) (λ a. pure_steady) (λ s le a e. record { word = []; value = as_arguments a; reads = λ z q. (refl, e) })

  some_takes : (r : ℕ) → Takes (some_arguments v r)
  unfolding expressions
  some_takes r ts a e =
      let lt = (fewer_bind (fewer_bind (fewer_expression_of v r) (λ x. less_loop (λ all u. less_close_by v signs.Comma (fits r all.levels) (less_bind (fewer_less (fewer_expression_of v r)) (λ y. less_pure)) u) (one_expression x)))
      (λ all. less_close v signs.RightParenthesis (fits r all.levels) less_pure)).spelled ts a ts e in
      absurd (omega (arith, lt))

  -- with the `)` behind them; all that is read fits
  pub some_arguments_completes : {ends : Token → Bool} (r : ℕ) → 0 < r → Completes fit ends r (λ s. some_arguments v s)
  some_arguments_completes {ends} r lt = then_completes (expressions_completes r lt) (arguments_behind ends r)

  pub arguments_completes : {ends : Token → Bool} (r : ℕ) → Completes fit ends r (λ s. arguments v s)
  unfolding arguments
  arguments_completes {ends} r = record {
    steady = commit_steady (λ s. some_arguments v s) (λ u. when_completes (is v signs.RightParenthesis u) (λ e. none)) (λ ts a e. absurd (some_takes r ts a e)) (then_steady (expressions_steady r) (arguments_behind ends r));
    live = λ s le. goes_fine (fit s) ends (λ u. when (is v signs.RightParenthesis u) (pure no_arguments)) (some_arguments v s) (words.sign signs.RightParenthesis) (pure no_arguments) (rw (is_itself v words signs.RightParenthesis) refl) (none.live s le);
  }
    where
      none : Completes fit ends r (λ s. pure no_arguments)
      none = pure_completes (λ s le. fits_of s 0 (omega arith))

  pub call_behind_completes : {ends : Token → Bool} (r : ℕ) (f : List ℕ) → Completes fit ends r (λ s. call_behind v s f)
  unfolding call_behind
  call_behind_completes r f = must_completes (is v signs.LeftParenthesis) (words.sign signs.LeftParenthesis) (is_itself v words signs.LeftParenthesis) (then_completes (arguments_completes r) (pure_behind (λ u e. e) (λ s le a e. e)))

  pub call_completes : {ends : Token → Bool} (r : ℕ) → Completes fit ends r (λ s. call v s)
  unfolding call
  call_completes {ends} r = choice_completes (λ u. go (callee (seen v u))) words.name (λ s le. rw words.name_is refl) (call_behind_completes r words.letters)
    where
      go : (o : Option (List ℕ)) → CompletesMove fit ends r (λ s. go_named (call_behind v s) o)
      go None = stop_completes
      go (Some f) = go_completes (call_behind_completes r f)

  pub some_arguments_viable : {ends : Token → Bool} (r : ℕ) → 0 < r → Viable ends r (λ s. some_arguments v s)
  some_arguments_viable r lt = completes_viable (some_arguments_completes r lt)

  pub arguments_viable : {ends : Token → Bool} (r : ℕ) → Viable ends r (λ s. arguments v s)
  arguments_viable r = completes_viable (arguments_completes r)

  pub call_behind_viable : {ends : Token → Bool} (r : ℕ) (f : List ℕ) → Viable ends r (λ s. call_behind v s f)
  call_behind_viable r f = completes_viable (call_behind_completes r f)

  pub call_viable : {ends : Token → Bool} (r : ℕ) → Viable ends r (λ s. call v s)
  call_viable r = completes_viable (call_completes r)

  -- ---- the argument of a new thread

  unary_completes : (r : ℕ) → Completes low (closes v) r (λ s. unary v s)
  unary_completes r = operand_completes v words r (beneath r)

  cast_moves : (r : ℕ) (u : Token) → CompletesMove low (closes v) r (λ s. cast_by v s u)
  cast_moves r u = go (is v signs.LeftParenthesis u)
    where
      go : (b : Bool) → CompletesMove low (closes v) r (λ s. cond b (fitting (may_open v s) (opened v s (lower_in v s) (unary v s) (unary v s))) Stop)
      go true = open_completes v words r (beneath r) (unary_completes r) (unary_completes r)
      go false = stop_completes

  cast_unary_completes : (r : ℕ) → Completes low (closes v) r (λ s. cast_unary v s)
  unfolding cast_unary
  cast_unary_completes r = record {
    steady = commit_steady (λ s. unary v s) (cast_moves r) (λ ts a e. absurd (taken ts a e)) (unary_completes r).steady;
    live = λ s le. record { word = words.number ∷ []; value = number v words; reads = λ z q. (rw words.number_is (number_operand v words s (lower_in v s) z), fits_of (suc s) 1 (omega arith)) };
  }
    where
      taken : (ts : List Token) (a : Tall Expr) → unary v r ts ≡ Got a ts → ⊥
      taken ts a e = let lt = (fewer_operand v r (lower_in v r) (below_fewer v r (λ m d k. fewer_chain v m k))).spelled ts a ts e in absurd (omega (arith, lt))

  void_completes : v.void ≡ true → (r : ℕ) → Completes low (closes v) r (λ s. void_cast v s)
  unfolding void_cast
  void_completes e r =
      let x = words.void e in
      must_completes (λ u. is_void (seen v u)) x.0 (rw x.1 refl)
      (must_completes (is v signs.Star) (words.sign signs.Star) (is_itself v words signs.Star)
      (must_completes (is v signs.RightParenthesis) (words.sign signs.RightParenthesis) (is_itself v words signs.RightParenthesis) (cast_unary_completes r)))

  pub void_lowered : v.void ≡ true → (r : ℕ) → 0 < r → Completes fit (closes v) r (lowered (void_cast v))
  void_lowered e zero lt = absurd (omega arith)
  void_lowered e (suc m) lt = lower_completes {small = low} {p = λ s. void_cast v s} (λ s z. refl) (λ s a. refl) (void_completes e m)

  void_moves : (r : ℕ) → CompletesMove fit (closes v) r (λ s. cond v.void (deeper (void_cast v) s) Stop)
  void_moves r = go v.void refl
    where
      go : (b : Bool) → v.void ≡ b → CompletesMove fit (closes v) r (λ s. cond b (deeper (void_cast v) s) Stop)
      go true e = deeper_completes {k = λ s. deeper (void_cast v) s} {p = lowered (void_cast v)} refl (λ s. refl) ((void_lowered e 1 (omega arith)).live 1 (omega arith)) (λ m d. void_lowered e r (omega (arith, d)))
      go false e = stop_completes

  argument_moves : (r : ℕ) (a : What) → CompletesMove fit (closes v) r (λ s. argument_by v s a)
  argument_moves r (What.Fixed w.Null) = go_completes (pure_completes (λ s le. fits_of s 0 (omega arith)))
  argument_moves r (What.Sign signs.LeftParenthesis) = void_moves r
  argument_moves r _ = stop_completes

  pub argument_steady : (r : ℕ) → Steady fit (closes v) r (λ s. argument v s)
  unfolding argument
  argument_steady r = choice_steady (λ u. argument_moves r (seen v u))

  -- where `NULL` may come, or `void` and there is a level for what is cast
  pub argument_completes_by_null : v.null ≡ true → (r : ℕ) → Completes fit (closes v) r (λ s. argument v s)
  unfolding argument
  argument_completes_by_null e r =
      let x = words.null e in
      choice_completes (λ u. argument_moves r (seen v u)) x.0 (λ s le. rw x.1 refl) (pure_completes {a = tall (tree.Number 0) 0} (λ s le. fits_of s 0 (omega arith)))

  pub argument_completes_by_void : v.void ≡ true → (r : ℕ) → 0 < r → Completes fit (closes v) r (λ s. argument v s)
  unfolding argument
  argument_completes_by_void e r lt = choice_completes (λ u. argument_moves r (seen v u)) {p = lowered (void_cast v)} (words.sign signs.LeftParenthesis) goes (void_lowered e r lt)
    where
      goes : (s : ℕ) → r ≤ s → argument_by v s (seen v (words.sign signs.LeftParenthesis)) ≡ Go (lowered (void_cast v) s)
      goes zero le = absurd (omega (arith, lt))
      goes (suc s) le = rw (words.sign_is signs.LeftParenthesis, e) refl
