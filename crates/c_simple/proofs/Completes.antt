-- Every simple statement and every step that is begun can be completed.
use Rattle.std.proofs.Common.{◌≡◌, ℕ, zero, suc, max, ◌<◌, ◌≤◌, Bool, true, false, cond, List, [], ◌∷◌, ◌++◌, Option, Some, None, refl, arith}
use Rattle.c_lexer.specs.declared.token.Sign.{Sign}
use Rattle.c_lexer.specs.declared.token.Sign.TheVariants as signs
use Rattle.c_tree.specs.declared.expr.Op.{Op}
use Rattle.c_tree.specs.declared.expr.Op.TheVariants as op
use Rattle.c_tree.specs.declared.program.Kind.{Kind}
use Rattle.c_tree.specs.declared.program.Kind.TheVariants as kind
use Rattle.c_tree.specs.Expressions as tree
use Rattle.c_tree.specs.Expressions.{Expr, Exprs, Place}
use Rattle.c_tree.specs.Lined as lined
use Rattle.c_tree.specs.Lined.{Stmt}
use Rattle.c_grammar.specs.declared.words.FixedWord.{FixedWord}
use Rattle.c_grammar.specs.declared.words.FixedWord.TheVariants as w
use Rattle.c_grammar.specs.Items.{What, name_of, callee}
use Rattle.c_grammar.specs.Levels.{Tall, tall, followed}
use Rattle.c_grammar.specs.Simple.{number_format}
use Rattle.parse_laws.specs.Parser.{Got, Parser, ◌>>=◌, and_then, pure, refuse, Move, Stop, Deep, Go, moved, commit, when, must, deeper}
use Rattle.parse_laws.proofs.Says.{Quiet, Live}
use Rattle.parse_laws.proofs.Viable.{ViableMove, stops, sinks, goes, Within}
use Rattle.parse_laws.proofs.After.{Fine, Steady, Completes, CompletesMove, stays, drops, takes, Behind, Onward, same_steady, then_steady, then_completes, onward_completes}
use Rattle.parse_laws.proofs.Completes.{steady_less, completes_viable, pure_steady, pure_completes, pure_behind, commit_steady, goes_fine, choice_steady, choice_completes, stop_completes, go_completes, when_completes, go_behind, must_steady, must_completes}
use Rattle.parse_laws.proofs.Chains.{loop_behind}
use Rattle.c_expressions.specs.Words.{same_sign, is_sign}
use Rattle.c_expressions.specs.Parsers.{Sight, seen, is, goes_on, go_named, fits, fitting, place_behind, no_arguments, scalar}
use Rattle.c_expressions.specs.Named.{named_expression}
use Rattle.c_expressions.proofs.Words.{Words, SeenAs}
use Rattle.c_expressions.proofs.Closers.{closing_sign, list_end, closes, closes_list, closer_no_bracket, closer_no_parenthesis, closer_no_comma, list_within, fit, low, fits_of, fits_le, is_itself, fitting_completes, close_behind, close_low_behind}
use Rattle.c_expressions.proofs.Parts.{head_of_callee, expression_steady, expression_completes, place_behind_completes, place_completes, address_completes, some_arguments_completes, arguments_completes, argument_completes_by_null}
use Rattle.c_expressions.proofs.Names.{named_steady}
use Rattle.c_expressions.proofs.Fits.{place_behind_fits, place_fits, address_fits}
use Rattle.c_expressions.proofs.Shorter.{fewer_choice}
use Rattle.c_simple.specs.declared.token.Way.{Way}
use Rattle.c_simple.specs.declared.token.Way.TheVariants as way
use Rattle.c_simple.specs.declared.token.Routine.{Routine}
use Rattle.c_simple.specs.declared.token.Routine.TheVariants as routine
use Rattle.c_simple.specs.Words.{way_of, counter, if_null, routine_by, routine_of, number_of, text_of}
use Rattle.c_simple.specs.Parsers.{line, go_with, ended, Source, Value, Call, value, value_first, call_arguments, source_call, behind_callee, source_by, value_or_call, set_to, counted, set, set_value, change, assigned_by, assigned, stepped_by, stepped, count_first, bare, declared_as, declared_by_source, declared, declarator, one_more, comma_by, declarators, returned, value_returned, return_by, is_no_value_at, is_null_at, null_closed, addressed, initialised, joined, acting, wait, take_by, first_take, more_takes, is_one_at, takes_end, takes as wait_takes, controlled_wait, monitor, numbered, is_number_format_at, scan, printed, print_with, print_by, print_behind, print, created, create_argument, behind_function, create_function, create, library, call_behind_name, call_by, called_by, parenthesis_by, change_behind_name, simple_named, step_named, counted_by, begun_by, simple_begun, step_by, simple_by}
use Rattle.c_simple.proofs.Shorter.{less_assigned_by, less_stepped_by, comma_shrinks, take_shrinks}

-- ---- laws of rooms

-- a token that opens a level; in the room 0 a word is needed for the room 1
deeper_by : {Token A : Type 0} {fits : ℕ → A → Bool} {ends : Token → Bool} {k : ℕ → Move Token A} {p : ℕ → Parser Token A} (r : ℕ) → k 0 ≡ Deep → ((s : ℕ) → k (suc s) ≡ Go (p (suc s))) → (r ≡ 0 → Live ends (λ z o. Fine (fits 1) (p 1) z o))
    → ((m : ℕ) → r ≡ suc m → Completes fits ends r p) → CompletesMove fits ends r k
deeper_by {p = p} zero deep go live h = drops deep 1 (omega arith) (p 1) (go 0) (live refl)
deeper_by {k = k} {p = p} (suc m) deep go live h = takes p same (h m refl)
  where
    same : (s : ℕ) → suc m ≤ s → k s ≡ Go (p s)
    same zero le = absurd (omega arith)
    same (suc s) le = go s

-- a token that must come behind a part of which each value fits
must_onward_from : {Token A C : Type 0} {small : ℕ → A → Bool} {fits : ℕ → C → Bool} {before ends : Token → Bool} {f : ℕ → A → Parser Token C} (is : Token → Bool) (w : Token) → is w ≡ true → before w ≡ true → (r : ℕ)
    → ((s : ℕ) → r ≤ s → (a : A) → small s a ≡ true → Completes fits ends s (λ s. f s a)) → Onward small fits before ends r (λ s a. must is (f s a))
must_onward_from {Token} {A} {C} {small} {fits} {before} {ends} {f} is w e b r h = record {
  steady = λ a d. must_steady is (h r (omega arith) a d);
  starts = λ s le a d. let y = (h s le a d).live s (omega arith) in record { live = record { word = w ∷ y.word; value = y.value; reads = λ z q. rw e (y.reads z q) }; closes = λ z q. b };
  empty = λ a d ts c q. absurd (taken a d ts c q);
}
  where
    taken : (a : A) → small r a ≡ true → (ts : List Token) (c : C) → must is (f r a) ts ≡ Got c ts → ⊥
    taken a d [] c q = cc
    taken a d (u ∷ z) c q = go (is u) q
      where
        go : (x : Bool) → and_then (moved (when x (pure u)) refuse u z) (λ _. f r a) ≡ Got c (u ∷ z) → ⊥
        go true q = let le = steady_less (h r (omega arith) a d).steady z c (u ∷ z) q in absurd (omega (arith, le))
        go false q = absurd cc

must_onward : {Token A C : Type 0} {small : ℕ → A → Bool} {fits : ℕ → C → Bool} {before ends : Token → Bool} {f : ℕ → A → Parser Token C} (is : Token → Bool) (w : Token) → is w ≡ true → before w ≡ true
    → ((r : ℕ) (a : A) → small r a ≡ true → Completes fits ends r (λ s. f s a)) → (r : ℕ) → Onward small fits before ends r (λ s a. must is (f s a))
must_onward is w e b h r = must_onward_from is w e b r (λ s le a d. h s a d)

-- a move whose values all fit, apart from that
plain_move : {Token A : Type 0} {fits : ℕ → A → Bool} {ends : Token → Bool} {r : ℕ} {k : ℕ → Move Token A} → CompletesMove fits ends r k → ViableMove ends r k
plain_move (stays f) = stops f
plain_move (drops e s le p d live) = sinks e s le p d (record { word = live.word; value = live.value; reads = λ z q. (live.reads z q).0 })
plain_move (takes p f c) = goes p f (completes_viable c)

wider : (r s n : ℕ) → r ≤ s → fits r n ≡ true → fits s n ≡ true
wider r s n le e = let l = fits_le r n e in fits_of s n (omega (arith, l, le))

-- a statement over what fits
over_fits : (s n : ℕ) → fits s n ≡ true → fits (suc s) (suc n) ≡ true
over_fits s n e = let l = fits_le s n e in fits_of (suc s) (suc n) (omega (arith, l))

both_fit : (s n m : ℕ) → fits s n ≡ true → fits s m ≡ true → fits (suc s) (suc (max n m)) ≡ true
both_fit s n m x y = let a = fits_le s n x in let b = fits_le s m y in fits_of (suc s) (suc (max n m)) (omega (arith, a, b))

-- ---- closers

no_callee : (a : What) → closing_sign a ≡ true → callee a ≡ None
no_callee (What.Sign signs.RightParenthesis) e = refl
no_callee (What.Sign signs.RightBracket) e = refl
no_callee (What.Sign signs.Comma) e = refl
no_callee (What.Sign signs.Semicolon) e = refl
no_callee _ e = absurd cc

no_assign_at : (a : What) → closing_sign a ≡ true → is_sign signs.Assign a ≡ false
unfolding same_sign
no_assign_at (What.Sign signs.Assign) e = absurd cc
no_assign_at _ e = refl

no_bracket_at : (a : What) → is_sign signs.Increment a ≡ true → is_sign signs.LeftBracket a ≡ false
unfolding same_sign
no_bracket_at (What.Sign signs.LeftBracket) e = absurd cc
no_bracket_at _ e = refl

no_number_at : (a : What) → is_sign signs.Minus a ≡ true → number_of a ≡ None
unfolding same_sign
no_number_at (What.Number k) e = absurd cc
no_number_at _ e = refl

module _ {Token : Type 0} (v : Sight Token) (words : Words v) where
  same_closers : Within (closes v) (closes v)
  same_closers u e = e

  -- what closes a list isn't `[`
  no_index : (u : Token) → closes_list v u ≡ true → is v signs.LeftBracket u ≡ false
  no_index u e = closer_no_bracket v u (list_within v u e)

  -- ---- values

  abbrev source_fits : ℕ → Source → Bool
  source_fits s (Value e) = fits s e.levels
  source_fits s (Call c) = fits s c.levels

  value_steady : (r : ℕ) → Steady source_fits (closes v) r (λ s. value v s)
  value_steady r = then_steady (expression_steady v words r) (pure_behind same_closers (λ s le a e. e))

  module _ (u : Token) (f : List ℕ) (d : callee (seen v u) ≡ Some f) where
    first_is : (s : ℕ) (z : List Token) → and_then (named_expression v s u f z) (λ e. pure (Value e)) ≡ value_first v s u f z
    first_is zero [] = refl
    first_is zero (t ∷ z) = go (goes_on v t)
      where
        go : (b : Bool) → and_then (moved (cond b Deep Stop) (pure (tall (tree.Name f) 1)) t z) (λ e. pure (Value e)) ≡ moved (cond b Deep Stop) (pure (Value (tall (tree.Name f) 1))) t z
        go true = refl
        go false = refl
    first_is (suc s) z = refl

    first_steady : (r : ℕ) → Steady source_fits (closes v) r (λ s. value_first v s u f)
    first_steady r = same_steady first_is (then_steady (named_steady v words u f (head_of_callee (seen v u) f d) r) (pure_behind same_closers (λ s le a e. e)))

  call_arguments_completes : {ends : Token → Bool} (r : ℕ) (f : List ℕ) → Completes fit ends r (λ s. call_arguments v s f)
  call_arguments_completes r f = then_completes (arguments_completes v words r) (pure_behind (λ u e. e) (λ s le a e. e))

  source_call_completes : {ends : Token → Bool} (r : ℕ) (f : List ℕ) → Completes source_fits ends r (λ s. source_call v s f)
  source_call_completes r f = then_completes (call_arguments_completes r f) (pure_behind (λ u e. e) (λ s le a e. e))

  behind_callee_completes : (u : Token) (f : List ℕ) → callee (seen v u) ≡ Some f → (r : ℕ) → Completes source_fits (closes v) r (λ s. behind_callee v s u f)
  unfolding behind_callee
  behind_callee_completes u f d r = record {
    steady = commit_steady (λ s. value_first v s u f) (λ t. when_completes (is v signs.LeftParenthesis t) (λ e. source_call_completes r f)) (λ ts a e s le t q. rw (closer_no_parenthesis v t q) refl) (first_steady u f d r);
    live = λ s le. goes_fine (source_fits s) (closes v) (λ t. when (is v signs.LeftParenthesis t) (source_call v s f)) (value_first v s u f) (words.sign signs.LeftParenthesis) (source_call v s f) (rw (is_itself v words signs.LeftParenthesis) refl)
        ((source_call_completes r f).live s le);
  }

  value_or_call_completes : (r : ℕ) → Completes source_fits (closes v) r (λ s. value_or_call v s)
  unfolding value_or_call
  value_or_call_completes r = record {
    steady = commit_steady (λ s. value v s) (λ u. move u (callee (seen v u)) refl) (λ ts a e s le u q. rw (no_callee (seen v u) q) refl) (value_steady r);
    live = λ s le. goes_fine (source_fits s) (closes v) (source_by v s) (value v s) words.name (behind_callee v s words.name words.letters) (rw words.name_is refl)
        ((behind_callee_completes words.name words.letters (rw words.name_is refl) r).live s le);
  }
    where
      move : (u : Token) (o : Option (List ℕ)) → callee (seen v u) ≡ o → CompletesMove source_fits (closes v) r (λ s. go_named (behind_callee v s u) o)
      move u None d = stop_completes
      move u (Some f) d = go_completes (behind_callee_completes u f d r)

  -- ---- assignments

  set_fits : (s : ℕ) (l : ℕ) (p : Tall Place) (x : Source) → fit s p ≡ true → source_fits s x ≡ true → low s (set_to l p x) ≡ true
  set_fits s l p (Value e) a b = both_fit s p.levels e.levels a b
  set_fits s l p (Call c) a b = both_fit s p.levels c.levels a b

  module _ (l : ℕ) where
    set_completes : (r : ℕ) (p : Tall Place) → fit r p ≡ true → Completes low (closes_list v) r (λ s. set v s l p)
    set_completes r p d = then_completes (value_or_call_completes r) (pure_behind (list_within v) (λ s le x e. set_fits s l p x (wider r s p.levels le d) e))

    set_value_completes : (r : ℕ) (p : Tall Place) → fit r p ≡ true → 0 < r → Completes low (closes_list v) r (λ s. set_value v s l p)
    set_value_completes r p d lt = then_completes (expression_completes v words r lt) (pure_behind (list_within v) (λ s le x e. both_fit s p.levels x.levels (wider r s p.levels le d) e))

    change_completes : (r : ℕ) (o : Op) (p : Tall Place) → fit r p ≡ true → 0 < r → Completes low (closes_list v) r (λ s. change v s l o p)
    change_completes r o p d lt = then_completes (expression_completes v words r lt) (pure_behind (list_within v) (λ s le x e. both_fit s p.levels x.levels (wider r s p.levels le d) e))

    change_moves : (r : ℕ) (o : Op) (p : Tall Place) → fit r p ≡ true → CompletesMove low (closes_list v) r (λ s. deeper (λ _. change v s l o p) s)
    change_moves r o p d = deeper_by {p = λ s. change v s l o p} r refl (λ s. refl) (λ e. (change_completes 1 o p (wider r 1 p.levels (omega (arith, e)) d) (omega arith)).live 1 (omega arith)) (λ m e. change_completes r o p d (omega (arith, e)))

    count_completes : (r : ℕ) (o : Op) (p : Tall Place) → fit r p ≡ true → Completes low (closes_list v) r (λ s. pure (counted l o p))
    count_completes r o p d = pure_completes (λ s le. over_fits s p.levels (wider r s p.levels le d))

    assign_moves : (r : ℕ) (p : Tall Place) → fit r p ≡ true → (a : Way) → CompletesMove low (closes_list v) r (λ s. assigned_by v s l p a)
    assign_moves r p d way.Set = go_completes (set_completes r p d)
    assign_moves r p d (way.Change o) = change_moves r o p d
    assign_moves r p d (way.Count o) = go_completes (count_completes r o p d)
    assign_moves r p d way.Other = stop_completes

    step_moves_by : (r : ℕ) (p : Tall Place) → fit r p ≡ true → (a : Way) → CompletesMove low (closes_list v) r (λ s. stepped_by v s l p a)
    step_moves_by r p d way.Set = deeper_by {p = λ s. set_value v s l p} r refl (λ s. refl) (λ e. (set_value_completes 1 p (wider r 1 p.levels (omega (arith, e)) d) (omega arith)).live 1 (omega arith)) (λ m e. set_value_completes r p d (omega (arith, e)))
    step_moves_by r p d (way.Change o) = change_moves r o p d
    step_moves_by r p d (way.Count o) = go_completes (count_completes r o p d)
    step_moves_by r p d way.Other = stop_completes

    -- behind a place: `++` closes it
    abbrev increments : Token → Bool
    increments u = is v signs.Increment u

    assigned_onward : (r : ℕ) → Onward fit low increments (closes_list v) r (λ s p. assigned v s l p)
    assigned_onward r = record {
      steady = λ p d. choice_steady (λ u. assign_moves r p d (way_of (seen v u)));
      starts = λ s le p d. record {
        live = record { word = words.sign signs.Increment ∷ []; value = counted l op.Add p; reads = λ z q. (rw (words.sign_is signs.Increment) refl, over_fits s p.levels d) };
        closes = λ z q. is_itself v words signs.Increment;
      };
      empty = λ p d ts c e. absurd (taken p ts c e);
    }
      where
        taken : (p : Tall Place) (ts : List Token) (c : Tall (List Stmt)) → assigned v r l p ts ≡ Got c ts → ⊥
        taken p ts c e = let lt = (fewer_choice (λ u. less_assigned_by v r l p (way_of (seen v u)))).spelled ts c ts e in absurd (omega (arith, lt))

    stepped_onward : (r : ℕ) → Onward fit low increments (closes_list v) r (λ s p. stepped v s l p)
    stepped_onward r = record {
      steady = λ p d. choice_steady (λ u. step_moves_by r p d (way_of (seen v u)));
      starts = λ s le p d. record {
        live = record { word = words.sign signs.Increment ∷ []; value = counted l op.Add p; reads = λ z q. (rw (words.sign_is signs.Increment) refl, over_fits s p.levels d) };
        closes = λ z q. is_itself v words signs.Increment;
      };
      empty = λ p d ts c e. absurd (taken p ts c e);
    }
      where
        taken : (p : Tall Place) (ts : List Token) (c : Tall (List Stmt)) → stepped v r l p ts ≡ Got c ts → ⊥
        taken p ts c e = let lt = (fewer_choice (λ u. less_stepped_by v r l p (way_of (seen v u)))).spelled ts c ts e in absurd (omega (arith, lt))

    no_bracket : (u : Token) → increments u ≡ true → is v signs.LeftBracket u ≡ false
    no_bracket u e = no_bracket_at (seen v u) e

    change_behind_completes : (r : ℕ) (n : List ℕ) → Completes low (closes_list v) r (λ s. change_behind_name v s l n)
    change_behind_completes r n = onward_completes (λ ts p rest e. place_behind_fits v r n ts p rest e) (place_behind_completes v words no_bracket r n) (assigned_onward r)

    step_behind_completes : (r : ℕ) (n : List ℕ) → Completes low (closes_list v) r (λ s. place_behind v s n >>= stepped v s l)
    step_behind_completes r n = onward_completes (λ ts p rest e. place_behind_fits v r n ts p rest e) (place_behind_completes v words no_bracket r n) (stepped_onward r)

    count_first_completes : (r : ℕ) (o : Op) → Completes low (closes_list v) r (λ s. count_first v s l o)
    unfolding count_first
    count_first_completes r o = then_completes (place_completes v words no_index r) (pure_behind (λ u e. e) (λ s le p e. over_fits s p.levels e))

  -- ---- declarations

  declared_fits : (s l : ℕ) (n : List ℕ) (x : Source) → source_fits s x ≡ true → low s (declared_as l n x) ≡ true
  declared_fits s l n (Value e) d = over_fits s e.levels d
  declared_fits s l n (Call c) d = over_fits s c.levels d

  no_assign : (u : Token) → closes v u ≡ true → is v signs.Assign u ≡ false
  no_assign u e = no_assign_at (seen v u) e

  declared_completes : (r l : ℕ) (n : List ℕ) → Completes low (closes v) r (λ s. declared v s l n)
  unfolding declared
  declared_completes r l n = record {
    steady = commit_steady (λ s. pure (bare l n)) (λ t. when_completes (is v signs.Assign t) (λ e. by_source)) (λ ts a e s le t q. rw (no_assign t q) refl) pure_steady;
    live = λ s le. record { word = []; value = bare l n; reads = λ z q. (alone_read s z q, fits_of (suc s) 1 (omega arith)) };
  }
    where
      by_source : Completes low (closes v) r (λ s. declared_by_source v s l n)
      by_source = then_completes (value_or_call_completes r) (pure_behind same_closers (λ s le x e. declared_fits s l n x e))

      alone_read : (s : ℕ) (z : List Token) → Quiet (closes v) z → commit (λ t. when (is v signs.Assign t) (declared_by_source v s l n)) (pure (bare l n)) z ≡ Got (bare l n) z
      alone_read s [] q = refl
      alone_read s (t ∷ z) q = rw (no_assign t q) refl

  declarator_completes : (r : ℕ) → Completes low (closes v) r (λ s. declarator v s)
  unfolding declarator
  declarator_completes r = choice_completes (λ u. go u (name_of (seen v u))) words.name (λ s le. rw words.name_is refl) (declared_completes r (line v words.name) words.letters)
    where
      go : (u : Token) (o : Option (List ℕ)) → CompletesMove low (closes v) r (λ s. go_named (declared v s (line v u)) o)
      go u None = stop_completes
      go u (Some n) = go_completes (declared_completes r (line v u) n)

  followed_fits : (s : ℕ) (all x : Tall (List Stmt)) → low s all ≡ true → low s x ≡ true → low s (followed all x) ≡ true
  followed_fits s all x a b = let c = fits_le (suc s) all.levels a in let d = fits_le (suc s) x.levels b in fits_of (suc s) (max all.levels x.levels) (omega (arith, c, d))

  one_more_completes : (r : ℕ) (all : Tall (List Stmt)) → low r all ≡ true → Completes low (closes v) r (λ s. one_more v s all)
  one_more_completes r all e = then_completes (declarator_completes r) (pure_behind same_closers (λ s le x d. followed_fits s all x (wider (suc r) (suc s) all.levels (omega (arith, le)) e) d))

  comma_moves : (r : ℕ) (all : Tall (List Stmt)) (u : Token) → CompletesMove low (closes v) r (λ s. comma_by v s all u)
  comma_moves r all u = go (is v signs.Comma u)
    where
      go : (b : Bool) → CompletesMove low (closes v) r (λ s. cond b (fitting (fits (suc s) all.levels) (one_more v s all)) Stop)
      go true = fitting_completes (λ s. suc s) (λ s t le. omega (arith, le)) (λ s. omega arith) all.levels (λ e. (one_more_completes r all e).steady) (λ s le e. (one_more_completes s all e).live s (omega arith))
      go false = stop_completes

  comma_stops : (s : ℕ) (all : Tall (List Stmt)) (u : Token) → closes_list v u ≡ true → comma_by v s all u ≡ Stop
  comma_stops s all u e = rw (closer_no_comma v u e) refl

  declarators_completes : (r : ℕ) → Completes low (closes_list v) r (λ s. declarators v s)
  unfolding declarators
  declarators_completes r = then_completes (declarator_completes r) (loop_behind {fits = low} {k = λ s. comma_by v s} (list_within v) comma_stops (comma_shrinks v) (comma_moves r) (list_within v))

  -- ---- calls of the library

  -- a sign behind a place or more
  sign_onward : {A C : Type 0} {small : ℕ → A → Bool} {value_fits : ℕ → C → Bool} {ends : Token → Bool} {f : ℕ → A → Parser Token C} (x : Sign) → closes v (words.sign x) ≡ true
      → ((r : ℕ) (a : A) → small r a ≡ true → Completes value_fits ends r (λ s. f s a)) → (r : ℕ) → Onward small value_fits (closes v) ends r (λ s a. must (is v x) (f s a))
  sign_onward x c h r = must_onward (is v x) (words.sign x) (is_itself v words x) c h r

  sign_completes : {C : Type 0} {value_fits : ℕ → C → Bool} {ends : Token → Bool} {r : ℕ} {f : ℕ → Parser Token C} (x : Sign) → Completes value_fits ends r f → Completes value_fits ends r (λ s. must (is v x) (f s))
  sign_completes x c = must_completes (is v x) (words.sign x) (is_itself v words x) c

  no_index_at : (u : Token) → closes v u ≡ true → is v signs.LeftBracket u ≡ false
  no_index_at u e = closer_no_bracket v u e

  place_pure : {ends : Token → Bool} (r : ℕ) (p : Tall Place) → fit r p ≡ true → Completes fit ends r (λ s. pure p)
  place_pure r p d = pure_completes (λ s le. wider r s p.levels le d)

  addressed_completes : {ends : Token → Bool} (r : ℕ) → Completes fit ends r (λ s. addressed v s)
  unfolding addressed
  addressed_completes r = onward_completes (λ ts p rest e. address_fits v r ts p rest e) (address_completes v words no_index_at r) (sign_onward signs.RightParenthesis (rw (words.sign_is signs.RightParenthesis) refl) place_pure r)

  module _ (n : v.null ≡ true) where
    null_completes : {C : Type 0} {value_fits : ℕ → C → Bool} {ends : Token → Bool} {r : ℕ} {f : ℕ → Parser Token C} → Completes value_fits ends r f → Completes value_fits ends r (λ s. must (is_null_at v) (f s))
    null_completes c = let x = words.null n in must_completes (is_null_at v) x.0 (rw x.1 refl) c

    null_closed_onward : {ends : Token → Bool} (r : ℕ) → Onward (fit {A = Place}) (fit {A = Place}) (closes v) ends r (λ s p. null_closed v p)
    unfolding null_closed
    null_closed_onward r = sign_onward signs.Comma (rw (words.sign_is signs.Comma) refl) (λ r p d. null_completes (sign_completes signs.RightParenthesis (place_pure r p d))) r

    initialised_completes : {ends : Token → Bool} (r : ℕ) → Completes fit ends r (λ s. initialised v s)
    unfolding initialised
    initialised_completes r = onward_completes (λ ts p rest e. address_fits v r ts p rest e) (address_completes v words no_index_at r) (null_closed_onward r)

    joined_completes : {ends : Token → Bool} (r : ℕ) → Completes fit ends r (λ s. joined v s)
    unfolding joined
    joined_completes r = onward_completes (λ ts p rest e. place_fits v r ts p rest e) (place_completes v words no_index_at r) (null_closed_onward r)

  module _ (l : ℕ) where
    acting_completes : {ends : Token → Bool} {r : ℕ} {p : ℕ → Parser Token (Tall Place)} (act : Place → Stmt) → Completes fit ends r p → Completes low ends r (λ s. acting act (p s))
    acting_completes act c = then_completes c (pure_behind (λ u e. e) (λ s le p e. over_fits s p.levels e))

    wait_completes : {ends : Token → Bool} (r : ℕ) → Completes low ends r (λ s. wait v s l)
    unfolding wait
    wait_completes r = onward_completes (λ ts p rest e. address_fits v r ts p rest e) (address_completes v words no_index_at r)
        (sign_onward signs.Comma (rw (words.sign_is signs.Comma) refl) (λ r p d. then_completes (addressed_completes r) (pure_behind (λ u e. e) (λ s le q e. both_fit s p.levels q.levels (wider r s p.levels le d) e))) r)

    numbered_completes : {ends : Token → Bool} (r : ℕ) (act : ℕ → Stmt) → Completes low ends r (λ s. numbered v act)
    unfolding monitor
    numbered_completes {ends} r act =
        then_completes {small = λ s k. true}
        (choice_completes (λ u. go (number_of (seen v u))) words.number (λ s le. rw words.number_is refl) (number_behind words.value))
        (pure_behind (λ u e. e) (λ s le k e. fits_of (suc s) 1 (omega arith)))
      where
        number_behind : (k : ℕ) → Completes (λ s k. true) ends r (λ s. must (is v signs.RightParenthesis) (pure k))
        number_behind k = sign_completes signs.RightParenthesis (pure_completes (λ s le. refl))

        go : (o : Option ℕ) → CompletesMove (λ s k. true) ends r (λ s. go_with (λ k. must (is v signs.RightParenthesis) (pure k)) o)
        go None = stop_completes
        go (Some k) = go_completes (number_behind k)

    -- behind the comma of a number: `-` closes them
    abbrev ends_takes : Token → Bool
    ends_takes u = is v signs.Minus u

    take_completes : {ends : Token → Bool} (r : ℕ) (all : List ℕ) (k : ℕ) → Completes (λ s a. true) ends r (λ s. must (is v signs.Comma) (pure (all ++ k ∷ [])))
    take_completes r all k = sign_completes signs.Comma (pure_completes (λ s le. refl))

    take_moves : (r : ℕ) (all : List ℕ) (u : Token) → CompletesMove (λ s a. true) ends_takes r (λ s. take_by v all u)
    take_moves r all u = go (number_of (seen v u))
      where
        go : (o : Option ℕ) → CompletesMove (λ s a. true) ends_takes r (λ s. go_with (λ k. must (is v signs.Comma) (pure (all ++ k ∷ []))) o)
        go None = stop_completes
        go (Some k) = go_completes (take_completes r all k)

    take_stops : (s : ℕ) (all : List ℕ) (u : Token) → ends_takes u ≡ true → take_by v all u ≡ Stop
    take_stops s all u e = rw (no_number_at (seen v u) e) refl

    numbers_complete : (r : ℕ) → Completes (λ s a. true) ends_takes r (λ s. first_take v >>= more_takes v)
    unfolding first_take
    numbers_complete r =
        then_completes (choice_completes (take_moves r []) words.number (λ s le. rw words.number_is refl) (take_completes r [] words.value))
        (loop_behind {fits = λ s a. true} {k = λ s. take_by v} (λ u e. e) take_stops (λ s. take_shrinks v) (take_moves r) (λ u e. e))

    takes_complete : {ends : Token → Bool} (r : ℕ) → Completes (λ s a. true) ends r (λ s. wait_takes v)
    unfolding wait_takes takes_end
    takes_complete r =
        onward_completes {small = λ s a. true} (λ ts a rest e. refl) (numbers_complete r)
        (must_onward (is v signs.Minus) (words.sign signs.Minus) (is_itself v words signs.Minus) (is_itself v words signs.Minus)
        (λ r a d. must_completes (is_one_at v) words.one (rw words.one_is refl) (sign_completes signs.RightParenthesis (pure_completes (λ s le. refl)))) r)

    controlled_completes : {ends : Token → Bool} (r : ℕ) → Completes low ends r (λ s. controlled_wait v s l)
    unfolding controlled_wait
    controlled_completes r =
        onward_completes (λ ts p rest e. address_fits v r ts p rest e) (address_completes v words no_index_at r) (sign_onward signs.Comma (rw (words.sign_is signs.Comma) refl)
        (λ r p d. onward_completes (λ ts q rest e. address_fits v r ts q rest e) (address_completes v words no_index_at r)
        (must_onward_from (is v signs.Comma) (words.sign signs.Comma) (is_itself v words signs.Comma) (rw (words.sign_is signs.Comma) refl) r (λ s le q e. then_completes (takes_complete s) (pure_behind (λ u e. e) (λ t le2 all f. both_fit t p.levels q.levels (wider r t p.levels (omega (arith, le, le2)) d) (wider s t q.levels le2 e)))))) r)

    scan_completes : {ends : Token → Bool} (r : ℕ) → Completes low ends r (λ s. scan v s l)
    unfolding scan
    scan_completes r = must_completes (is_number_format_at v) words.format (rw words.format_is refl) (sign_completes signs.Comma (acting_completes (lined.Read l) (addressed_completes r)))

    print_with_completes : {ends : Token → Bool} (r : ℕ) (f : List ℕ) → 0 < r → Completes low ends r (λ s. print_with v s l f)
    print_with_completes r f lt = then_completes (some_arguments_completes v words r lt) (pure_behind (λ u e. e) (λ s le args e. over_fits s args.levels e))

    print_moves : {ends : Token → Bool} (r : ℕ) (f : List ℕ) (a : What) → CompletesMove low ends r (λ s. print_by v s l f a)
    print_moves r f (What.Sign signs.RightParenthesis) = go_completes (pure_completes (λ s le. fits_of (suc s) 1 (omega arith)))
    print_moves r f (What.Sign signs.Comma) = deeper_by {p = λ s. print_with v s l f} r refl (λ s. refl) (λ e. (print_with_completes 1 f (omega arith)).live 1 (omega arith)) (λ m e. print_with_completes r f (omega (arith, e)))
    print_moves r f _ = stop_completes

    print_behind_completes : {ends : Token → Bool} (r : ℕ) (f : List ℕ) → Completes low ends r (λ s. print_behind v s l f)
    unfolding print_behind
    print_behind_completes r f = choice_completes (λ u. print_moves r f (seen v u)) (words.sign signs.RightParenthesis) (λ s le. rw (words.sign_is signs.RightParenthesis) refl)
        (pure_completes {a = printed l f no_arguments} (λ s le. fits_of (suc s) 1 (omega arith)))

    print_completes : {ends : Token → Bool} (r : ℕ) → Completes low ends r (λ s. print v s l)
    unfolding print
    print_completes {ends} r = choice_completes (λ u. go (text_of (seen v u))) words.format (λ s le. rw words.format_is refl) (print_behind_completes r number_format)
      where
        go : (o : Option (List ℕ)) → CompletesMove low ends r (λ s. go_with (print_behind v s l) o)
        go None = stop_completes
        go (Some f) = go_completes (print_behind_completes r f)

    module _ (n : v.null ≡ true) where
      create_argument_completes : {ends : Token → Bool} (r : ℕ) (p : Tall Place) (f : List ℕ) → fit r p ≡ true → Completes low ends r (λ s. create_argument v s l p f)
      unfolding create_argument
      create_argument_completes r p f d =
          then_completes (argument_completes_by_null v words n r) (close_behind v words signs.RightParenthesis (rw (words.sign_is signs.RightParenthesis) refl) (λ a. pure_steady)
          (λ s le a e. record { word = []; value = created l p f a; reads = λ z q. (refl, both_fit s p.levels a.levels (wider r s p.levels le d) e) }))

      behind_function_completes : {ends : Token → Bool} (r : ℕ) (p : Tall Place) (f : List ℕ) → fit r p ≡ true → Completes low ends r (λ s. behind_function v s l p f)
      behind_function_completes r p f d = sign_completes signs.Comma (create_argument_completes r p f d)

      create_function_completes : {ends : Token → Bool} (r : ℕ) (p : Tall Place) → fit r p ≡ true → Completes low ends r (λ s. create_function v s l p)
      unfolding create_function
      create_function_completes {ends} r p d = choice_completes (λ u. go (name_of (seen v u))) words.name (λ s le. rw words.name_is refl) (behind_function_completes r p words.letters d)
        where
          go : (o : Option (List ℕ)) → CompletesMove low ends r (λ s. go_named (behind_function v s l p) o)
          go None = stop_completes
          go (Some f) = go_completes (behind_function_completes r p f d)

      create_completes : {ends : Token → Bool} (r : ℕ) → Completes low ends r (λ s. create v s l)
      unfolding create
      create_completes r = onward_completes (λ ts p rest e. address_fits v r ts p rest e) (address_completes v words no_index_at r)
          (sign_onward signs.Comma (rw (words.sign_is signs.Comma) refl) (λ r p d. null_completes n (sign_completes signs.Comma (create_function_completes r p d))) r)

    -- what is called of the library, where `NULL` can come if it is asked for
    library_moves : {ends : Token → Bool} (r : ℕ) (a : What) → CompletesMove low ends r (λ s. go_with (library v s l) (routine_of v.null a))
    library_moves {ends} r (What.Fixed word) = go word
      where
        with_null : (x : Routine) → (v.null ≡ true → Completes low ends r (λ s. library v s l x)) → CompletesMove low ends r (λ s. go_with (library v s l) (if_null v.null x))
        with_null x h = at v.null refl
          where
            at : (b : Bool) → v.null ≡ b → CompletesMove low ends r (λ s. go_with (library v s l) (if_null b x))
            at true e = go_completes (h e)
            at false e = stop_completes

        go : (word : FixedWord) → CompletesMove low ends r (λ s. go_with (library v s l) (routine_by v.null word))
        go w.Print = go_completes (print_completes r)
        go w.Scan = go_completes (scan_completes r)
        go w.Create = with_null routine.Create (λ n. create_completes n r)
        go w.Join = with_null routine.Join (λ n. acting_completes (lined.Join l) (joined_completes n r))
        go w.InitMutex = with_null routine.InitMutex (λ n. acting_completes (lined.InitMutex l) (initialised_completes n r))
        go w.InitCondition = with_null routine.InitCondition (λ n. acting_completes (lined.InitCond l) (initialised_completes n r))
        go w.Lock = go_completes (acting_completes (lined.Lock l) (addressed_completes r))
        go w.Unlock = go_completes (acting_completes (lined.Unlock l) (addressed_completes r))
        go w.Wait = go_completes (wait_completes r)
        go w.Signal = go_completes (acting_completes (lined.Signal l) (addressed_completes r))
        go w.Broadcast = go_completes (acting_completes (lined.Broadcast l) (addressed_completes r))
        go w.Take = go_completes (numbered_completes r (lined.Take l))
        go w.Give = go_completes (numbered_completes r (lined.Give l))
        go w.ControlledWait = go_completes (controlled_completes r)
        go _ = stop_completes
    library_moves r _ = stop_completes

  -- ---- statements

  call_name_completes : {ends : Token → Bool} (r l : ℕ) (f : List ℕ) → Completes low ends r (λ s. call_behind_name v s l f)
  call_name_completes r l f = then_completes (call_arguments_completes r f) (pure_behind (λ u e. e) (λ s le c e. over_fits s c.levels e))

  call_moves : (r : ℕ) (u : Token) → CompletesMove low (closes_list v) r (λ s. called_by v s u)
  call_moves r u = go (callee (seen v u))
    where
      go : (o : Option (List ℕ)) → CompletesMove low (closes_list v) r (λ s. call_by v s (line v u) o (routine_of v.null (seen v u)))
      go (Some f) = go_completes (call_name_completes r (line v u) f)
      go None = library_moves (line v u) r (seen v u)

  parenthesis_moves : (r : ℕ) (u t : Token) → CompletesMove low (closes_list v) r (λ s. parenthesis_by v s u t)
  parenthesis_moves r u t = go (is v signs.LeftParenthesis t)
    where
      go : (b : Bool) → CompletesMove low (closes_list v) r (λ s. cond b (called_by v s u) Stop)
      go true = call_moves r u
      go false = stop_completes

  simple_named_completes : (r : ℕ) (u : Token) (n : List ℕ) → Completes low (closes_list v) r (λ s. simple_named v s u n)
  unfolding simple_named same_sign
  simple_named_completes r u n = record {
    steady = commit_steady (λ s. change_behind_name v s (line v u) n) (parenthesis_moves r u) (λ ts a e s le t q. rw (closer_no_parenthesis v t (list_within v t q)) refl) (change_behind_completes (line v u) r n).steady;
    live = λ s le. record {
      word = words.sign signs.Increment ∷ [];
      value = counted (line v u) op.Add (scalar n);
      reads = λ z q. (rw (words.sign_is signs.Increment, words.sign_is signs.Increment, words.sign_is signs.Increment) refl, fits_of (suc s) 1 (omega arith));
    };
  }

  step_named_completes : (r : ℕ) (u : Token) (n : List ℕ) → Completes low (closes_list v) r (λ s. step_named v s u n)
  unfolding step_named
  step_named_completes r u n = step_behind_completes (line v u) r n

  counted_moves : (r : ℕ) (u : Token) → CompletesMove low (closes_list v) r (λ s. counted_by v s u)
  counted_moves r u = go (counter (seen v u))
    where
      go : (o : Option Op) → CompletesMove low (closes_list v) r (λ s. go_with (count_first v s (line v u)) o)
      go None = stop_completes
      go (Some o) = go_completes (count_first_completes (line v u) r o)

  begun_moves : {p : ℕ → List ℕ → Parser Token (Tall (List Stmt))} {other : ℕ → Move Token (Tall (List Stmt))} {r : ℕ} (o : Option (List ℕ)) → ((n : List ℕ) → Completes low (closes_list v) r (λ s. p s n)) → CompletesMove low (closes_list v) r other
      → CompletesMove low (closes_list v) r (λ s. begun_by (p s) (other s) o)
  begun_moves (Some n) x y = go_completes (x n)
  begun_moves None x y = y

  -- the number 0 ends the function of a thread, as `NULL` does
  module _ (nought : SeenAs v (λ a. a ≡ What.Number 0)) where
    return_moves : (r l : ℕ) (k : Kind) → CompletesMove low (closes_list v) r (λ s. return_by v s l k)
    return_moves r l k = go k
      where
        value_completes : (r : ℕ) → 0 < r → Completes low (closes_list v) r (λ s. value_returned v s l)
        value_completes r lt = then_completes (expression_completes v words r lt) (pure_behind (list_within v) (λ s le e d. over_fits s e.levels d))

        value_moves : CompletesMove low (closes_list v) r (λ s. deeper (λ _. value_returned v s l) s)
        value_moves = deeper_by {p = λ s. value_returned v s l} r refl (λ s. refl) (λ e. (value_completes 1 (omega arith)).live 1 (omega arith)) (λ m e. value_completes r (omega (arith, e)))

        nothing : Completes low (closes_list v) r (λ s. pure (returned l None 0))
        nothing = pure_completes (λ s le. fits_of (suc s) 1 (omega arith))

        go : (k : Kind) → CompletesMove low (closes_list v) r (λ s. return_by v s l k)
        go kind.Main = value_moves
        go kind.Int = value_moves
        go kind.Void = go_completes nothing
        go kind.Thread = go_completes (must_completes (is_no_value_at v) nought.0 (rw nought.1 refl) nothing)

    begins_moves : (k : Kind) (r : ℕ) (u : Token) (a : What) → CompletesMove low (closes_list v) r (λ s. simple_begun v k s u a)
    begins_moves k r u (What.Fixed w.Int) = go_completes (declarators_completes r)
    begins_moves k r u (What.Fixed w.Return) = return_moves r (line v u) k
    begins_moves k r u _ = begun_moves {p = λ s n. simple_named v s u n} (name_of (seen v u)) (simple_named_completes r u) (counted_moves r u)

    -- the sign behind a statement
    ended_behind : {ends : Token → Bool} (closer : Sign) → closes_list v (words.sign closer) ≡ true → (r : ℕ) → Behind low low (closes_list v) ends r (λ s x. ended v closer s x)
    ended_behind closer c r = close_low_behind v words closer c (λ x. pure_steady) (λ s le x e. record { word = []; value = x; reads = λ z q. (refl, e) })

    -- what a token does as the first of a simple statement; all that is read fits
    pub simple_completes : {ends : Token → Bool} (k : Kind) (r : ℕ) (u : Token) → CompletesMove low ends r (λ s. simple_by v k s u)
    simple_completes k r u = go_behind (begins_moves k r u (seen v u)) (ended_behind signs.Semicolon (rw (words.sign_is signs.Semicolon) refl) r)

    pub simple_moves : {ends : Token → Bool} (k : Kind) (r : ℕ) (u : Token) → ViableMove ends r (λ s. simple_by v k s u)
    simple_moves k r u = plain_move (simple_completes k r u)

    -- and of a step, before a sign that ends one
    pub step_completes : {ends : Token → Bool} (closer : Sign) → list_end (What.Sign closer) ≡ true → (r : ℕ) (u : Token) → CompletesMove low ends r (λ s. step_by v closer s u)
    step_completes closer c r u =
        go_behind (begun_moves {p = λ s n. step_named v s u n} (name_of (seen v u)) (step_named_completes r u) (counted_moves r u)) (ended_behind closer (rw (words.sign_is closer) c) r)

    pub step_moves : {ends : Token → Bool} (closer : Sign) → list_end (What.Sign closer) ≡ true → (r : ℕ) (u : Token) → ViableMove ends r (λ s. step_by v closer s u)
    step_moves closer c r u = plain_move (step_completes closer c r u)
