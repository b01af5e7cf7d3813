-- Every expression that is begun can be completed: operands, and expressions of operators over them.
use Rattle.std.proofs.Common.{◌≡◌, ℕ, zero, suc, ◌-◌, max, ◌<◌, ◌≤◌, ◌||◌, Bool, true, false, cond, List, [], ◌∷◌, Option, Some, None, is_some, refl, sym, ◌∙◌, arith}
use Rattle.c_lexer.specs.declared.token.Sign.TheVariants as signs
use Rattle.c_tree.specs.declared.expr.Op.{Op}
use Rattle.c_tree.specs.Expressions as tree
use Rattle.c_tree.specs.Expressions.{Expr}
use Rattle.c_grammar.specs.declared.words.FixedWord.TheVariants as w
use Rattle.c_grammar.specs.Items.{name_of, spelling}
use Rattle.c_grammar.specs.Levels.{Tall, over}
use Rattle.c_grammar.specs.Expressions.{joined, loosest}
use Rattle.parse_laws.specs.declared.fault.Fault.TheVariants.{Syntax, TooDeep}
use Rattle.parse_laws.specs.Parser.{Outcome, Got, Failed, Parser, and_then, ◌>>=◌, pure, Stop, Go, when, deeper}
use Rattle.parse_laws.specs.Operators.{climb, chain}
use Rattle.parse_laws.proofs.Rooms.{by_room}
use Rattle.parse_laws.proofs.Says.{first, Quiet, Live}
use Rattle.parse_laws.proofs.Loops.{choice_shorter}
use Rattle.parse_laws.proofs.Operators as ops
use Rattle.parse_laws.proofs.After.{Fine, Tells, Steady, Completes, CompletesMove, drops, takes, Behind, same_completes, alike_steady, live_then, then_steady, then_completes}
use Rattle.parse_laws.proofs.Completes.{pure_steady, pure_completes, pure_behind, commit_steady, commit_steady_at, goes_fine, choice_completes, lower_completes, stop_completes, go_completes, when_completes, deeper_completes, must_completes, syntax_tells, deep_tells}
use Rattle.parse_laws.proofs.Chains.{climb_completes, level_steady}
use Rattle.c_expressions.specs.declared.token.Inner.{Inner}
use Rattle.c_expressions.specs.declared.token.Inner.TheVariants as i
use Rattle.c_expressions.specs.Words.{Head, head, inner}
use Rattle.c_expressions.specs.Parsers.{Sight, seen, is, go_named, named, fitting, fits, close_by, close, begins, goes_on, operator_of, argument_of, wrapped, cast_name, is_cast_word, int_cast, pointer_name, pointer_cast, expression_in, closed, pointer_first, pointer, opened_by, opened, may_open, indexed, bracket_by, behind_name, element, name_operand, negation, opposite, signed, operand_by, operand, expressions_of, lower_in}
use Rattle.c_expressions.proofs.Shorter.{fewer_closed, below_fewer, fewer_chain, less_shrinks, less_close_by, less_pure, shrinks}
use Rattle.c_expressions.proofs.Spelled.{head_word, inner_pointer}
use Rattle.c_expressions.proofs.Words.{Words}
use Rattle.c_expressions.proofs.Closers.{closes, closer_no_operator, closer_no_name, closer_no_bracket, fit, low, fits_of, fits_le, is_itself, close_is, close_takes, close_behind}
use Rattle.c_expressions.proofs.Readings.{number, operand_at, right_closes, bracket_closes, number_read, chain_live, opened_live, begun, name_alone, name_indexed, name_before, name_joined, quiet_calm, chain_ends, chain_refuses}

module _ {Token : Type 0} (v : Sight Token) where
  -- What is known of the room r: any expression, and what goes on behind the name that it begins with.
  pub record Level (r : ℕ) : Type 0 where
    pub whole : (k : ℕ) → Completes low (closes v) r (λ s. chain (expressions_of v) s k)
    pub behind : (u : Token) (n : List ℕ) → head (seen v u) ≡ Head.Word n → (k : ℕ) → Completes low (closes v) r (λ s z. chain (expressions_of v) s k (u ∷ z))

  abbrev pub Beneath : ℕ → Type 0
  Beneath r = (m : ℕ) → r ≡ suc m → Level m

  -- a level down
  pub lower_fits : (r : ℕ) → Beneath r → 0 < r → (k : ℕ) → Completes fit (closes v) r (λ s. lower_in v s k)
  lower_fits zero h lt k = absurd (omega arith)
  lower_fits (suc m) h lt k = lower_completes {small = low} {p = λ s. chain (expressions_of v) s k} (λ s z. refl) (λ s a. refl) ((h m refl).whole k)

  lower_behind : (r : ℕ) → Beneath r → 0 < r → (u : Token) (n : List ℕ) → head (seen v u) ≡ Head.Word n → (k : ℕ) → Completes fit (closes v) r (λ s z. lower_in v s k (u ∷ z))
  lower_behind zero h lt u n e k = absurd (omega arith)
  lower_behind (suc m) h lt u n e k = lower_completes {small = low} {p = λ s z. chain (expressions_of v) s k (u ∷ z)} (λ s z. refl) (λ s a. refl) ((h m refl).behind u n e k)

  pub inside_fits : (r : ℕ) → Beneath r → 0 < r → Completes fit (closes v) r (λ s. expression_in v s (lower_in v s))
  inside_fits zero h lt = absurd (omega arith)
  inside_fits (suc m) h lt = lower_completes {small = low} {p = λ s. chain (expressions_of v) s loosest} (λ s z. refl) (λ s a. refl) ((h m refl).whole loosest)

-- a level more
pub low_over : {A B : Type 0} (s : ℕ) (a : Tall A) (b : B) → fit s a ≡ true → low s (over b a.levels) ≡ true
low_over s a b e = let le = fits_le s a.levels e in fits_of (suc s) (suc a.levels) (omega (arith, le))

module _ {Token : Type 0} (v : Sight Token) (words : Words v) where
  -- ---- parentheses

  wrapped_behind : (ends : Token → Bool) (r : ℕ) → Behind fit low (closes v) ends r (λ s e. close v signs.RightParenthesis (fits s e.levels) (pure (wrapped e)))
  wrapped_behind ends r = close_behind v words signs.RightParenthesis (right_closes v words) (λ a. pure_steady) (λ s le a e. record { word = []; value = wrapped a; reads = λ z q. (refl, low_over s a a.tree e) })

  closed_completes : {ends : Token → Bool} {r : ℕ} {inside : ℕ → Parser Token (Tall Expr)} → Completes fit (closes v) r inside → Completes low ends r (λ s. closed v s (inside s))
  closed_completes {ends} {r} c = then_completes c (wrapped_behind ends r)

  parentheses_steady : {ends : Token → Bool} (r : ℕ) → Beneath v r → Steady low ends r (λ s. closed v s (expression_in v s (lower_in v s)))
  parentheses_steady {ends} r h =
      level_steady (begins v) (λ m e. (closed_completes (inside_fits v r h (omega (arith, e)))).steady) opens (λ z. refl) (λ s. rw (chain_ends v s loosest) refl) (λ s u rest b. rw (chain_refuses v s loosest u rest b) refl)
    where
      opens : (u : Token) → begins v u ≡ true → (s : ℕ) × Live ends (λ z o. Fine (low (suc s)) (closed v (suc s) (expression_in v (suc s) (lower_in v (suc s)))) (u ∷ z) o)
      opens u b =
          let x = begun v words u b in
          let y = wrapped_behind ends 0 in
          (x.0, live_then fit low (λ s. expression_in v s (lower_in v s)) y.starts (suc x.0) (omega arith) (λ z. u ∷ z) x.1)

  -- ---- casts

  argument_completes : {ends : Token → Bool} {r : ℕ} (n : List ℕ) → Completes low ends r (λ s. pure (argument_of n))
  argument_completes n = pure_completes (λ s le. fits_of (suc s) 1 (omega arith))

  argument_moves : {ends : Token → Bool} {r : ℕ} (u : Token) → CompletesMove low ends r (λ s. named v (λ n. pure (argument_of n)) u)
  argument_moves {ends} {r} u = go (name_of (seen v u))
    where
      go : (o : Option (List ℕ)) → CompletesMove low ends r (λ s. go_named (λ n. pure (argument_of n)) o)
      go None = stop_completes
      go (Some n) = go_completes (argument_completes n)

  pub cast_name_completes : {ends : Token → Bool} {r : ℕ} → Completes low ends r (λ s. cast_name v)
  unfolding cast_name
  cast_name_completes = choice_completes argument_moves words.name (λ s le. rw words.name_is refl) (argument_completes words.letters)

  pub pointer_cast_completes : {r : ℕ} → Completes low (closes v) r (λ s. pointer_cast v)
  unfolding pointer_cast
  pointer_cast_completes = record {
    steady = commit_steady (λ s. pure pointer_name) argument_moves (λ ts a e s le u q. rw (closer_no_name v u q) refl) pure_steady;
    live = λ s le. goes_fine (low s) (closes v) (named v (λ n. pure (argument_of n))) (pure pointer_name) words.name (pure (argument_of words.letters)) (rw words.name_is refl)
        (record { word = []; value = argument_of words.letters; reads = λ z q. (refl, fits_of (suc s) 1 (omega arith)) });
  }

  int_cast_completes : {ends : Token → Bool} {r : ℕ} → v.casts ≡ true → Completes low ends r (λ s. int_cast v)
  unfolding int_cast
  int_cast_completes e =
      let x = words.cast e in
      must_completes (is v signs.RightParenthesis) (words.sign signs.RightParenthesis) (is_itself v words signs.RightParenthesis)
      (must_completes (is v signs.LeftParenthesis) (words.sign signs.LeftParenthesis) (is_itself v words signs.LeftParenthesis)
      (must_completes (is_cast_word v) x.0 x.1
      (must_completes (is v signs.RightParenthesis) (words.sign signs.RightParenthesis) (is_itself v words signs.RightParenthesis) cast_name_completes)))

  -- ---- behind `( intptr_t`

  -- another token than `)`: it goes on behind the name, or nothing does
  module _ (u : Token) (n : List ℕ) (e : head (seen v u) ≡ Head.Word n) where
    first_takes : (r : ℕ) (ts : List Token) (a : Tall Expr) → pointer_first v r (lower_in v r) u ts ≡ Got a ts → ⊥
    first_takes zero ts a d = absurd cc
    first_takes (suc m) ts a d = go (chain (expressions_of v) m loosest (u ∷ ts)) refl d
      where
        go : (o : Outcome Token (Tall Expr)) → chain (expressions_of v) m loosest (u ∷ ts) ≡ o → and_then o (λ b. close v signs.RightParenthesis (fits (suc m) b.levels) (pure (wrapped b))) ≡ Got a ts → ⊥
        go (Failed f mid) c d = absurd cc
        go (Got b mid) c d =
            let one = (fewer_chain v m loosest).spelled (u ∷ ts) b mid c in
            let sign = signs.RightParenthesis in
            let two = choice_shorter (close_by v sign (fits (suc m) b.levels) (pure (wrapped b))) (λ t. less_shrinks (less_close_by v sign (fits (suc m) b.levels) less_pure t)) mid a ts (close_is v sign (fits (suc m) b.levels) (pure (wrapped b)) mid ∙ d) in
            absurd (omega (arith, one, two))

    -- it is read as that name
    pub name_first : (s : ℕ) (ts : List Token) → Quiet (λ t. closes v t) ts → chain (expressions_of v) s loosest (u ∷ ts) ≡ Got (over (tree.Name n) 0) ts
    name_first s ts q = ops.operand_reads (expressions_of v) s loosest (u ∷ ts) ts (over (tree.Name n) 0) (operand_at v s (lower_in v s) u ts (Head.Word n) e ∙ name_alone v s (lower_in v s) n ts q) (quiet_calm v loosest ts q)

    pub name_then : (s : ℕ) (t : Token) (rest : List Token) → goes_on v t ≡ false → chain (expressions_of v) s loosest (u ∷ t ∷ rest) ≡ Got (over (tree.Name n) 0) (t ∷ rest)
    name_then s t rest b =
        ops.operand_reads (expressions_of v) s loosest (u ∷ t ∷ rest) (t ∷ rest) (over (tree.Name n) 0)
        (operand_at v s (lower_in v s) u (t ∷ rest) (Head.Word n) e ∙ name_before v words s n t rest (apart (is v signs.LeftBracket t) (operator_of (seen v t)) b).0)
        (λ j lt. rw ((apart (is v signs.LeftBracket t) (operator_of (seen v t)) b).1) refl)
      where
        apart : (c : Bool) (o : Option Op) → c || is_some o ≡ false → (c ≡ false) × (o ≡ None)
        apart false None b = (refl, refl)
        apart false (Some o) b = absurd cc
        apart true o b = absurd cc

    first_refuses : (s : ℕ) (t : Token) (rest : List Token) → goes_on v t ≡ false → is v signs.RightParenthesis t ≡ false → pointer_first v s (lower_in v s) u (t ∷ rest) ≡ Failed Syntax (t ∷ rest)
    first_refuses zero t rest b c = rw b refl
    first_refuses (suc s) t rest b c = rw (name_then s t rest b, c) refl

    first_ends : (s : ℕ) → pointer_first v s (lower_in v s) u [] ≡ Failed Syntax []
    first_ends zero = refl
    first_ends (suc s) = rw (name_first s [] tt) refl

    -- in the room 2 it is read with what goes on
    first_live : {ends : Token → Bool} (t : Token) → goes_on v t ≡ true → Live ends (λ z o. Fine (low 2) (pointer_first v 2 (lower_in v 2) u) (t ∷ z) o)
    first_live {ends} t b = go (is v signs.LeftBracket t) refl (operator_of (seen v t)) refl b
      where
        closed_at : (a : Tall Expr) (z : List Token) → fits 2 a.levels ≡ true → close v signs.RightParenthesis (fits 2 a.levels) (pure (wrapped a)) (words.sign signs.RightParenthesis ∷ z) ≡ Got (wrapped a) z
        closed_at a z d = close_takes v signs.RightParenthesis (fits 2 a.levels) (pure (wrapped a)) z (words.sign signs.RightParenthesis) (is_itself v words signs.RightParenthesis) d

        go : (c : Bool) → is v signs.LeftBracket t ≡ c → (o : Option Op) → operator_of (seen v t) ≡ o → c || is_some o ≡ true → Live ends (λ z o. Fine (low 2) (pointer_first v 2 (lower_in v 2) u) (t ∷ z) o)
        go true d o f b = record {
          word = words.number ∷ words.sign signs.RightBracket ∷ words.sign signs.RightParenthesis ∷ [];
          value = wrapped (element n (number v words));
          reads = λ z q. (
            let read : chain (expressions_of v) 1 loosest (u ∷ t ∷ words.number ∷ words.sign signs.RightBracket ∷ words.sign signs.RightParenthesis ∷ z) ≡ Got (element n (number v words)) (words.sign signs.RightParenthesis ∷ z) =
                ops.operand_reads (expressions_of v) 1 loosest (u ∷ t ∷ words.number ∷ words.sign signs.RightBracket ∷ words.sign signs.RightParenthesis ∷ z) (words.sign signs.RightParenthesis ∷ z) (element n (number v words))
                (operand_at v 1 (lower_in v 1) u (t ∷ words.number ∷ words.sign signs.RightBracket ∷ words.sign signs.RightParenthesis ∷ z) (Head.Word n) e ∙ name_indexed v words 0 n t (words.sign signs.RightParenthesis ∷ z) d)
                (quiet_calm v loosest (words.sign signs.RightParenthesis ∷ z) (right_closes v words)) in
                rw read (closed_at (element n (number v words)) z refl),
            refl,
          );
        }
        go false d (Some o) f b = record {
          word = words.number ∷ words.sign signs.RightParenthesis ∷ [];
          value = wrapped (joined o (over (tree.Name n) 0) (number v words));
          reads = λ z q. (rw (name_joined v words n u t o (words.sign signs.RightParenthesis ∷ z) (head_word (seen v u) n e) e d f (right_closes v words)) (closed_at (joined o (over (tree.Name n) 0) (number v words)) z refl), refl);
        }
        go false d None f b = absurd cc

    first_steady : {ends : Token → Bool} (m : ℕ) → Beneath v (suc m) → Steady low ends (suc m) (λ s. pointer_first v s (lower_in v s) u)
    first_steady {ends} m h = alike_steady same (then_steady (lower_behind v (suc m) h (omega arith) u n e loosest).steady (wrapped_behind ends (suc m)))
      where
        same : (s : ℕ) → suc m ≤ s → (z : List Token) → and_then (lower_in v s loosest (u ∷ z)) (λ e. close v signs.RightParenthesis (fits s e.levels) (pure (wrapped e))) ≡ pointer_first v s (lower_in v s) u z
        same zero le z = absurd (omega arith)
        same (suc s) le z = refl

    first_tells : (ends : Token → Bool) (r : ℕ) → Beneath v r → (t : Token) (rest : List Token) → is v signs.RightParenthesis t ≡ false → Tells low ends r (λ s. pointer_first v s (lower_in v s) u) (t ∷ rest) (pointer_first v r (lower_in v r) u (t ∷ rest))
    first_tells ends (suc m) h t rest c = (first_steady m h).tells (t ∷ rest)
    first_tells ends zero h t rest c = go (goes_on v t) refl
      where
        deep : goes_on v t ≡ true → (z : List Token) → first z ≡ Some t → pointer_first v 0 (lower_in v 0) u z ≡ Failed TooDeep z
        deep b [] d = absurd cc
        deep b (x ∷ z) d = let same : x ≡ t = cc in rw (same, b) refl

        refused : goes_on v t ≡ false → (s : ℕ) → 0 ≤ s → (z : List Token) → first z ≡ Some t → pointer_first v s (lower_in v s) u z ≡ Failed Syntax z
        refused b s le [] d = absurd cc
        refused b s le (x ∷ z) d = let same : x ≡ t = cc in rw same (first_refuses s t z b c)

        go : (b : Bool) → goes_on v t ≡ b → Tells low ends 0 (λ s. pointer_first v s (lower_in v s) u) (t ∷ rest) (pointer_first v 0 (lower_in v 0) u (t ∷ rest))
        go true b = deep_tells low ends 0 (λ s. pointer_first v s (lower_in v s) u) t rest (deep b) 2 (omega arith) (first_live t b)
        go false b = syntax_tells low ends 0 (λ s. pointer_first v s (lower_in v s) u) (t ∷ rest) (refused b)

    pointer_completes : {ends : Token → Bool} {r : ℕ} {cast : ℕ → Parser Token (Tall Expr)} → Beneath v r → Completes low ends r cast → Completes low ends r (λ s. pointer v s (lower_in v s) (cast s) u)
    unfolding pointer
    pointer_completes {ends} {r} {cast} h c = record {
      steady = commit_steady_at (λ s. pointer_first v s (lower_in v s) u) (λ t. when_completes (is v signs.RightParenthesis t) (λ d. c)) (λ ts a d. absurd (first_takes r ts a d))
          (syntax_tells low ends r (λ s. pointer_first v s (lower_in v s) u) [] (λ s le z d. empty s z d)) (λ t rest f. first_tells ends r h t rest (no_right (is v signs.RightParenthesis t) (f r (omega arith))));
      live = λ s le. goes_fine (low s) ends (λ t. when (is v signs.RightParenthesis t) (cast s)) (pointer_first v s (lower_in v s) u) (words.sign signs.RightParenthesis) (cast s) (rw (is_itself v words signs.RightParenthesis) refl) (c.live s le);
    }
      where
        empty : (s : ℕ) (z : List Token) → first z ≡ None → pointer_first v s (lower_in v s) u z ≡ Failed Syntax z
        empty s [] d = first_ends s
        empty s (x ∷ z) d = absurd cc

        no_right : (b : Bool) → when b (cast r) ≡ Stop → b ≡ false
        no_right true d = absurd cc
        no_right false d = refl

  -- ---- what `(` opens

  opened_moves : {ends : Token → Bool} {r : ℕ} {long_cast pointer_cast : ℕ → Parser Token (Tall Expr)} → Beneath v r → Completes low ends r long_cast → Completes low ends r pointer_cast
      → (u : Token) → CompletesMove low ends r (λ s. opened_by v s (lower_in v s) (long_cast s) (pointer_cast s) u (inner (seen v u)))
  opened_moves {ends} {r} {long_cast} {pointer_cast} h long pointer u = go (inner (seen v u)) refl
    where
      go : (x : Inner) → inner (seen v u) ≡ x → CompletesMove low ends r (λ s. opened_by v s (lower_in v s) (long_cast s) (pointer_cast s) u x)
      go i.Int e = when_completes v.casts (λ c. int_cast_completes c)
      go i.Long e = go_completes (must_completes (is v signs.RightParenthesis) (words.sign signs.RightParenthesis) (is_itself v words signs.RightParenthesis) long)
      go i.Pointer e = go_completes (pointer_completes u (spelling w.IntPointer) (rw (inner_pointer (seen v u) e) refl) h pointer)
      go i.Other e = stop_completes

  opened_steady : {ends : Token → Bool} {r : ℕ} {long_cast pointer_cast : ℕ → Parser Token (Tall Expr)} → Beneath v r → Completes low ends r long_cast → Completes low ends r pointer_cast
      → Steady low ends r (λ s. opened v s (lower_in v s) (long_cast s) (pointer_cast s))
  unfolding opened
  opened_steady {r = r} h long pointer = commit_steady (λ s. closed v s (expression_in v s (lower_in v s))) (opened_moves h long pointer) (λ ts a e. absurd (taken ts a e)) (parentheses_steady r h)
    where
      taken : (ts : List Token) (a : Tall Expr) → closed v r (expression_in v r (lower_in v r)) ts ≡ Got a ts → ⊥
      taken ts a e = let lt = (fewer_closed v r (lower_in v r) (below_fewer v r (λ m d k. fewer_chain v m k))).spelled ts a ts e in absurd (omega (arith, lt))

  -- `(`, where something may follow it
  pub open_completes : {ends : Token → Bool} (r : ℕ) {long_cast pointer_cast : ℕ → Parser Token (Tall Expr)} → Beneath v r → Completes low ends r long_cast → Completes low ends r pointer_cast
      → CompletesMove low ends r (λ s. fitting (may_open v s) (opened v s (lower_in v s) (long_cast s) (pointer_cast s)))
  open_completes {ends} r {long_cast} {pointer_cast} h long pointer = go r h long pointer v.casts refl
    where
      live : (s : ℕ) → (r : ℕ) → r ≤ s → Completes low ends r long_cast → Completes low ends r pointer_cast → may_open v s ≡ true → Live ends (λ z o. Fine (low s) (opened v s (lower_in v s) (long_cast s) (pointer_cast s)) z o)
      live s r le long pointer e = opened_live v words s (long_cast s) (pointer_cast s) (long.live s le) (pointer.live s le) e

      may : (c : Bool) → v.casts ≡ c → c ≡ true → (s : ℕ) → may_open v s ≡ true
      may c e d zero = e ∙ d
      may c e d (suc s) = refl

      go : (r : ℕ) → Beneath v r → Completes low ends r long_cast → Completes low ends r pointer_cast → (c : Bool) → v.casts ≡ c → CompletesMove low ends r (λ s. fitting (may_open v s) (opened v s (lower_in v s) (long_cast s) (pointer_cast s)))
      go r h long pointer true e =
          takes (λ s. opened v s (lower_in v s) (long_cast s) (pointer_cast s)) (λ s le. rw (may true e refl s) refl) (record { steady = opened_steady h long pointer; live = λ s le. live s r le long pointer (may true e refl s) })
      go zero h long pointer false e = drops (rw e refl) 1 (omega arith) (opened v 1 (lower_in v 1) (long_cast 1) (pointer_cast 1)) refl (live 1 0 (omega arith) long pointer refl)
      go (suc m) h long pointer false e = takes (λ s. opened v s (lower_in v s) (long_cast s) (pointer_cast s)) opens (record { steady = opened_steady h long pointer; live = wider })
        where
          opens : (s : ℕ) → suc m ≤ s → fitting (may_open v s) (opened v s (lower_in v s) (long_cast s) (pointer_cast s)) ≡ Go (opened v s (lower_in v s) (long_cast s) (pointer_cast s))
          opens zero le = absurd (omega arith)
          opens (suc s) le = refl

          wider : (s : ℕ) → suc m ≤ s → Live ends (λ z o. Fine (low s) (opened v s (lower_in v s) (long_cast s) (pointer_cast s)) z o)
          wider zero le = absurd (omega arith)
          wider (suc s) le = live (suc s) (suc m) le long pointer refl

  -- ---- behind a name

  module _ {A : Type 0} {value_fits : ℕ → A → Bool} {ends : Token → Bool} (make : Tall Expr → A) (made : (s : ℕ) (e : Tall Expr) → fit s e ≡ true → value_fits s (make e) ≡ true) where
    index_completes : (r : ℕ) → Beneath v r → 0 < r → Completes value_fits ends r (λ s. indexed v s (lower_in v s) make)
    index_completes r h lt =
        then_completes {small = fit}
        (then_completes (lower_fits v r h lt loosest) (close_behind v words signs.RightBracket (bracket_closes v words) (λ a. pure_steady {ends = ends}) (λ s le a e. record { word = []; value = a; reads = λ z q. (refl, e) })))
        (pure_behind (λ u e. e) (λ s le a e. made s a e))

    index_moves : (r : ℕ) → Beneath v r → (u : Token) → CompletesMove value_fits ends r (λ s. bracket_by v s (indexed v s (lower_in v s) make) u)
    index_moves r h u = go (is v signs.LeftBracket u)
      where
        live : Live ends (λ z o. Fine (value_fits 1) (indexed v 1 (lower_in v 1) make) z o)
        live = record {
          word = words.number ∷ words.sign signs.RightBracket ∷ [];
          value = make (number v words);
          reads = λ z q. (rw (number_read v words 0 loosest (words.sign signs.RightBracket ∷ z) (bracket_closes v words), is_itself v words signs.RightBracket) refl, made 1 (number v words) refl);
        }

        go : (b : Bool) → CompletesMove value_fits ends r (λ s. cond b (deeper (λ _. indexed v s (lower_in v s) make) s) Stop)
        go true = deeper_completes {k = λ s. deeper (λ _. indexed v s (lower_in v s) make) s} {p = λ s. indexed v s (lower_in v s) make} refl (λ s. refl) live (λ m e. index_completes r h (omega (arith, e)))
        go false = stop_completes

    -- an index, or nothing, before what is no `[`
    pub behind_completes : ((u : Token) → ends u ≡ true → is v signs.LeftBracket u ≡ false) → (alone : A) → ((s : ℕ) → value_fits s alone ≡ true) → (r : ℕ) → Beneath v r → Completes value_fits ends r (λ s. behind_name v s (lower_in v s) make alone)
    behind_completes other alone fits r h = record {
      steady = commit_steady (λ s. pure alone) (index_moves r h) (λ ts a e s le u q. rw (other u q) refl) pure_steady;
      live = λ s le. record { word = []; value = alone; reads = λ z q. (stays s z q, fits s) };
    }
      where
        stays : (s : ℕ) (z : List Token) → Quiet ends z → behind_name v s (lower_in v s) make alone z ≡ Got alone z
        stays s [] q = refl
        stays s (u ∷ z) q = rw (other u q) refl

  pub name_completes : (r : ℕ) → Beneath v r → (n : List ℕ) → Completes low (closes v) r (λ s. name_operand v s (lower_in v s) n)
  unfolding name_operand
  name_completes r h n = behind_completes (element n) (λ s e d. low_over s e (tree.Element n e.tree) d) (closer_no_bracket v) (over (tree.Name n) 0) (λ s. fits_of (suc s) 1 (omega arith)) r h

  -- ---- operands

  signed_moves : (r : ℕ) → Beneath v r → (make : Tall Expr → Tall Expr) → ((s : ℕ) (e : Tall Expr) → low s e ≡ true → low (suc s) (make e) ≡ true) → CompletesMove low (closes v) r (λ s. deeper (λ _. signed (lower_in v s) make) s)
  signed_moves r h make made = deeper_completes {k = λ s. deeper (λ _. signed (lower_in v s) make) s} {p = λ s. signed (lower_in v s) make} refl (λ s. refl) live (λ m e. part r h m e)
    where
      live : Live (closes v) (λ z o. Fine (low 1) (signed (lower_in v 1) make) z o)
      live = record { word = words.number ∷ []; value = make (number v words); reads = λ z q. (rw (number_read v words 0 0 z q) refl, made 0 (number v words) refl) }

      part : (r : ℕ) → Beneath v r → (m : ℕ) → r ≡ suc m → Completes low (closes v) r (λ s. signed (lower_in v s) make)
      part zero h m e = absurd cc
      part (suc n) h m e = then_completes {small = fit} (lower_fits v (suc n) h (omega arith) 0) (pure_behind (λ u e. e) made_fit)
        where
          made_fit : (s : ℕ) → suc n ≤ s → (a : Tall Expr) → fit s a ≡ true → low s (make a) ≡ true
          made_fit zero le a d = absurd (omega arith)
          made_fit (suc s) le a d = made s a d

  operand_moves : (r : ℕ) → Beneath v r → (u : Token) → CompletesMove low (closes v) r (λ s. operand_by v s (lower_in v s) (head (seen v u)))
  operand_moves r h u = go (head (seen v u))
    where
      go : (x : Head) → CompletesMove low (closes v) r (λ s. operand_by v s (lower_in v s) x)
      go (Head.Value n) = go_completes (pure_completes (λ s le. fits_of (suc s) 1 (omega arith)))
      go (Head.Word n) = go_completes (name_completes r h n)
      go Head.Open = open_completes r h cast_name_completes pointer_cast_completes
      go Head.Not = signed_moves r h negation (λ s e d. low_over (suc s) e (tree.Not e.tree) d)
      go Head.Minus = signed_moves r h opposite (λ s e d. low_over (suc s) e (tree.Minus e.tree) d)
      go Head.Other = stop_completes

  -- an operand with the signs before it
  pub operand_completes : (r : ℕ) → Beneath v r → Completes low (closes v) r (λ s. operand v s (lower_in v s))
  unfolding operand
  operand_completes r h = choice_completes (operand_moves r h) words.number (λ s le. rw words.number_is refl) (pure_completes {a = number v words} (λ s le. fits_of (suc s) 1 (omega arith)))

  -- ---- operators

  joined_fits : (s : ℕ) (o : Op) (a b : Tall Expr) → a.levels - 1 ≤ s → low s b ≡ true → low (suc s) (joined o a b) ≡ true
  joined_fits s o a b le e = let l = fits_le (suc s) b.levels e in fits_of (suc (suc s)) (suc (max a.levels b.levels)) (omega (arith, l, le))

  level_of : (r : ℕ) → Beneath v r → Level v r
  level_of r h = record {
    whole = λ k. same_completes (λ s z. sym (ops.chain_is (expressions_of v) s k z)) (climbs k (operand_completes r h));
    behind = λ u n e k. same_completes (λ s z. sym (named u n e k s z)) (climbs k (name_completes r h n));
  }
    where
      climbs : (k : ℕ) {q : ℕ → Parser Token (Tall Expr)} → Completes low (closes v) r q → Completes low (closes v) r (λ s. q s >>= climb (expressions_of v) s (lower_in v s) k)
      climbs k x = climb_completes (expressions_of v) low (closes v) (λ j u q. rw (closer_no_operator v u q) refl) (shrinks v) joined_fits (chain_live v words) (λ m e. (h m e).whole) k x

      named : (u : Token) (n : List ℕ) → head (seen v u) ≡ Head.Word n → (k s : ℕ) (z : List Token) → chain (expressions_of v) s k (u ∷ z) ≡ and_then (name_operand v s (lower_in v s) n z) (climb (expressions_of v) s (lower_in v s) k)
      named u n e k s z = ops.chain_is (expressions_of v) s k (u ∷ z) ∙ rw (operand_at v s (lower_in v s) u z (Head.Word n) e) refl

  -- every room
  pub levels : (r : ℕ) → Level v r
  levels = by_room (Level v) level_of
