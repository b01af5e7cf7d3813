-- Statements that hold no others are read alike where tokens are seen alike.
use Rattle.std.proofs.Common.{◌≡◌, ℕ, zero, suc, Bool, true, false, cond, ◌||◌, if◌then◌else◌, List, [], ◌∷◌, ◌++◌, length, Option, Some, None, refl, sym, ap, subst}
use Rattle.std.specs.Option.{is_some}
use Rattle.c_lexer.specs.declared.token.Sign.{Sign}
use Rattle.c_lexer.specs.declared.token.Sign.TheVariants as s
use Rattle.c_tree.specs.declared.expr.Op.{Op}
use Rattle.c_tree.specs.declared.program.Kind.{Kind}
use Rattle.c_tree.specs.declared.program.Kind.TheVariants as kind
use Rattle.c_tree.specs.Expressions.{Place}
use Rattle.c_tree.specs.Lined as lined
use Rattle.c_tree.specs.Lined.{Stmt}
use Rattle.c_grammar.specs.declared.words.FixedWord.TheVariants as w
use Rattle.c_grammar.specs.Items.{What, Item, name_of, callee}
use Rattle.c_grammar.specs.Levels.{Tall, alone, followed}
use Rattle.parse_laws.specs.Parser.{Parser, ◌>>=◌, pure, Move, Stop, Deep, when, must}
use Rattle.parse_laws.proofs.Alike.{Ways, token, Alike, AlikeMove, AlikeMoves, Stays, alike_moves, pure_alike, commit_alike, choice_alike, option_alike, test_alike, must_alike, bind_alike, then_alike, deeper_alike, loop_alike}
use Rattle.c_expressions.specs.Words.{is_sign}
use Rattle.c_expressions.specs.Parsers.{Sight, what_at, seen, is, go_named, named, fits, close, operator_of, expression, place_behind, place, address, no_arguments, some_arguments, arguments, call_of, argument}
use Rattle.c_expressions.proofs.Same.{Like, by_bars, bars, clear, ways, by_what, test_by_what, is_same, sign_same, go_named_same, named_same, closes_same, close_same, expression_same, place_behind_same, place_same, address_same, some_arguments_same, arguments_same, argument_same}
use Rattle.c_simple.specs.declared.token.Way.{Way}
use Rattle.c_simple.specs.declared.token.Way.TheVariants as way
use Rattle.c_simple.specs.declared.token.Routine.{Routine}
use Rattle.c_simple.specs.declared.token.Routine.TheVariants as routine
use Rattle.c_simple.specs.Words.{way_of, counter, routine_of, is_null, is_no_value, is_one, number_of, text_of, is_number_format}
use Rattle.c_simple.specs.Parsers.{line_in, line, go_with, ended, Source, Value, Call, value, name_value, too_deep_on, value_first, call_arguments, source_call, behind_callee, source_by, value_or_call, set_to, change_by, counted, set_value, change, assigned_by, assigned, stepped_by, stepped, count_first, bare, declared_as, declared_by_source, declared, declarator, one_more, comma_by, more_declarators, declarators, returned, value_returned, return_by, is_null_at, null_closed, addressed, initialised, joined, acting, waited, wait, take_by, first_take, more_takes, takes_end, takes, controlled_wait, monitor, numbered, scan, printed, print_with, print_by, print_behind, print, created, create_argument, behind_function, create_function, create, library, call_statement, call_by, called_by, parenthesis_by, change_behind_name, simple_named, step_named, counted_by, begun_by, step_begun, other_begun, simple_begun, step_by, simple_by}

module _ {One Two : Type 0} (v : Sight One) (z : Sight Two) (like : Like v z) (Later : List One → List Two → Type 0) (long : (x : List One) (y : List Two) → Later x y → length x ≡ length y) where
  abbrev Y : Ways One Two Item
  Y = ways v z like Later long

  abbrev A : {B : Type 0} → Parser One B → Parser Two B → Type 0
  A p q = Alike Y p q

  abbrev AM : {B : Type 0} → Move One B → Move Two B → Type 0
  AM k m = AlikeMove Y k m

  abbrev AMs : {B : Type 0} → (One → Move One B) → (Two → Move Two B) → Type 0
  AMs k m = AlikeMoves Y k m

  then_pure : {B C : Type 0} (p : Parser One B) (q : Parser Two B) (f : B → C) → A p q → A (p >>= λ x. pure (f x)) (q >>= λ x. pure (f x))
  then_pure p q f h = bind_alike Y p q (λ x. pure (f x)) (λ x. pure (f x)) h (λ x. pure_alike Y (f x))

  sign_then : {B : Type 0} (x : Sign) (p : Parser One B) (q : Parser Two B) → A p q → A (must (is v x) p) (must (is z x) q)
  sign_then x p q h = sign_same v z like Later long x p q h

  test_then : {B : Type 0} (f : What → Bool) (p : Parser One B) (q : Parser Two B) → f What.Definition ≡ false → f What.Repeated ≡ false → A p q → A (must (λ u. f (seen v u)) p) (must (λ t. f (seen z t)) q)
  test_then f p q d r h = must_alike Y (λ u. f (seen v u)) (λ t. f (seen z t)) p q (test_by_what v z like Later long f d r) h

  -- moves by what a token is
  whats : {B : Type 0} (k : What → Move One B) (m : What → Move Two B) → ((a : What) → AM (k a) (m a)) → Stays Y (m What.Definition) → Stays Y (m What.Repeated) → AMs (λ u. k (seen v u)) (λ t. m (seen z t))
  whats k m h d r = by_what v z like Later long k m h d r

  -- moves by the token and its line
  items : {B : Type 0} (k : Item → Move One B) (m : Item → Move Two B) → ((t : Item) → AM (k t) (m t)) → ((t : Item) → bars t ≡ true → Stays Y (m t)) → AMs (λ u. k (v.item u)) (λ t. m (z.item t))
  items k m h c = alike_moves Y (λ u t e. subst (λ (x : Item). AM (k x) (m (z.item t))) (sym e) (h (z.item t))) (λ t b. c (z.item t) b)

  go_with_same : {B C : Type 0} (p : C → Parser One B) (q : C → Parser Two B) → ((c : C) → A (p c) (q c)) → (o : Option C) → AM (go_with p o) (go_with q o)
  go_with_same p q h None = tt
  go_with_same p q h (Some c) = h c

  ended_same : (closer : Sign) (r : ℕ) (x : Tall (List Stmt)) → A (ended v closer r x) (ended z closer r x)
  ended_same closer r x = close_same v z like Later long closer (fits (suc r) x.levels) (pure x) (pure x) (pure_alike Y x)

  -- ---- where a value comes from

  value_same : (r : ℕ) → A (value v r) (value z r)
  value_same r = then_pure (expression v r) (expression z r) (λ e. Value e) (expression_same v z like Later long r)

  too_deep_same : AMs (too_deep_on v) (too_deep_on z)
  too_deep_same = whats (λ a. if is_sign s.LeftBracket a || is_some (operator_of a) then Deep else Stop) (λ a. if is_sign s.LeftBracket a || is_some (operator_of a) then Deep else Stop) (λ a. go (is_sign s.LeftBracket a || is_some (operator_of a))) tt tt
    where
      go : (b : Bool) → AM {B = Source} (cond b Deep Stop) (cond b Deep Stop)
      go true = tt
      go false = tt

  value_first_same : (r : ℕ) (u : One) (t : Two) (f : List ℕ) → v.item u ≡ z.item t → clear (z.item t) ≡ true → A (value_first v r u f) (value_first z r t f)
  value_first_same zero u t f e c = option_alike Y (too_deep_on v) (too_deep_on z) (name_value f) too_deep_same
  value_first_same (suc r) u t f e c = λ x y d. value_same (suc r) (u ∷ x) (t ∷ y) (token e c d)

  call_arguments_same : (r : ℕ) (f : List ℕ) → A (call_arguments v r f) (call_arguments z r f)
  call_arguments_same r f = then_pure (arguments v r) (arguments z r) (call_of f) (arguments_same v z like Later long r)

  behind_callee_same : (r : ℕ) (u : One) (t : Two) (f : List ℕ) → v.item u ≡ z.item t → clear (z.item t) ≡ true → A (behind_callee v r u f) (behind_callee z r t f)
  unfolding behind_callee
  behind_callee_same r u t f e c =
      commit_alike Y (λ a. when (is v s.LeftParenthesis a) (source_call v r f)) (λ a. when (is z s.LeftParenthesis a) (source_call z r f)) (value_first v r u f) (value_first z r t f)
      (test_alike Y (is v s.LeftParenthesis) (is z s.LeftParenthesis) (source_call v r f) (source_call z r f) (is_same v z like Later long s.LeftParenthesis) (then_pure (call_arguments v r f) (call_arguments z r f) (λ c. Call c) (call_arguments_same r f)))
      (value_first_same r u t f e c)

  source_same : (r : ℕ) → AMs (source_by v r) (source_by z r)
  source_same r = record {
    moves = λ u t e c. subst (λ (x : Item). AM (go_named (behind_callee v r u) (callee (what_at x))) (go_named (behind_callee z r t) (callee (seen z t)))) (sym e) (go u t e c (callee (seen z t)));
    barred = λ u t e b. subst (λ (x : Item). AM (go_named (behind_callee v r u) (callee (what_at x))) (go_named (behind_callee z r t) (callee (seen z t)))) (sym e)
        (by_bars (λ a. AM (go_named (behind_callee v r u) (callee a)) (go_named (behind_callee z r t) (callee a))) tt tt (z.item t) b);
    stays = λ t b. by_bars (λ a. Stays Y (go_named (behind_callee z r t) (callee a))) tt tt (z.item t) b;
  }
    where
      go : (u : One) (t : Two) → v.item u ≡ z.item t → clear (z.item t) ≡ true → (o : Option (List ℕ)) → AM (go_named (behind_callee v r u) o) (go_named (behind_callee z r t) o)
      go u t e c None = tt
      go u t e c (Some f) = behind_callee_same r u t f e c

  value_or_call_same : (r : ℕ) → A (value_or_call v r) (value_or_call z r)
  unfolding value_or_call
  value_or_call_same r = commit_alike Y (source_by v r) (source_by z r) (value v r) (value z r) (source_same r) (value_same r)

  -- ---- assignments

  change_same : (r l : ℕ) (o : Op) (p : Tall Place) → A (change v r l o p) (change z r l o p)
  change_same r l o p = then_pure (expression v r) (expression z r) (change_by l o p) (expression_same v z like Later long r)

  assigned_same : (r l : ℕ) (p : Tall Place) → A (assigned v r l p) (assigned z r l p)
  assigned_same r l p = choice_alike Y (λ u. assigned_by v r l p (way_of (seen v u))) (λ t. assigned_by z r l p (way_of (seen z t))) (whats (λ a. assigned_by v r l p (way_of a)) (λ a. assigned_by z r l p (way_of a)) (λ a. go (way_of a)) tt tt)
    where
      go : (x : Way) → AM (assigned_by v r l p x) (assigned_by z r l p x)
      go way.Set = then_pure (value_or_call v r) (value_or_call z r) (set_to l p) (value_or_call_same r)
      go (way.Change o) = deeper_alike Y (λ _. change v r l o p) (λ _. change z r l o p) r (λ m e. change_same r l o p)
      go (way.Count o) = pure_alike Y (counted l o p)
      go way.Other = tt

  stepped_same : (r l : ℕ) (p : Tall Place) → A (stepped v r l p) (stepped z r l p)
  stepped_same r l p = choice_alike Y (λ u. stepped_by v r l p (way_of (seen v u))) (λ t. stepped_by z r l p (way_of (seen z t))) (whats (λ a. stepped_by v r l p (way_of a)) (λ a. stepped_by z r l p (way_of a)) (λ a. go (way_of a)) tt tt)
    where
      go : (x : Way) → AM (stepped_by v r l p x) (stepped_by z r l p x)
      go way.Set = deeper_alike Y (λ _. set_value v r l p) (λ _. set_value z r l p) r (λ m e. then_pure (expression v r) (expression z r) (λ e. set_to l p (Value e)) (expression_same v z like Later long r))
      go (way.Change o) = deeper_alike Y (λ _. change v r l o p) (λ _. change z r l o p) r (λ m e. change_same r l o p)
      go (way.Count o) = pure_alike Y (counted l o p)
      go way.Other = tt

  count_first_same : (r l : ℕ) (o : Op) → A (count_first v r l o) (count_first z r l o)
  unfolding count_first
  count_first_same r l o = then_pure (place v r) (place z r) (counted l o) (place_same v z like Later long r)

  -- ---- declarations

  declared_same : (r l : ℕ) (n : List ℕ) → A (declared v r l n) (declared z r l n)
  unfolding declared
  declared_same r l n =
      option_alike Y (λ t. when (is v s.Assign t) (declared_by_source v r l n)) (λ t. when (is z s.Assign t) (declared_by_source z r l n)) (bare l n)
      (test_alike Y (is v s.Assign) (is z s.Assign) (declared_by_source v r l n) (declared_by_source z r l n) (is_same v z like Later long s.Assign) (then_pure (value_or_call v r) (value_or_call z r) (declared_as l n) (value_or_call_same r)))

  declarator_same : (r : ℕ) → A (declarator v r) (declarator z r)
  unfolding declarator
  declarator_same r =
      choice_alike Y (λ u. named v (declared v r (line v u)) u) (λ t. named z (declared z r (line z t)) t)
      (items (λ x. go_named (declared v r (line_in x)) (name_of (what_at x))) (λ x. go_named (declared z r (line_in x)) (name_of (what_at x)))
      (λ x. go_named_same v z like Later long (declared v r (line_in x)) (declared z r (line_in x)) (declared_same r (line_in x)) (name_of (what_at x)))
      (λ x b. by_bars (λ a. Stays Y (go_named (declared z r (line_in x)) (name_of a))) tt tt x b))

  declarators_same : (r : ℕ) → A (declarators v r) (declarators z r)
  unfolding declarators
  declarators_same r =
      bind_alike Y (declarator v r) (declarator z r) (more_declarators v r) (more_declarators z r) (declarator_same r)
      (λ all. loop_alike Y (comma_by v r) (comma_by z r) (λ a. closes_same v z like Later long s.Comma (fits (suc r) a.levels) (one_more v r a) (one_more z r a) (then_pure (declarator v r) (declarator z r) (followed a) (declarator_same r))) all)

  -- ---- results

  value_returned_same : (r l : ℕ) → A (value_returned v r l) (value_returned z r l)
  value_returned_same r l = then_pure (expression v r) (expression z r) (λ e. returned l (Some e.tree) e.levels) (expression_same v z like Later long r)

  return_same : (r l : ℕ) (k : Kind) → AM (return_by v r l k) (return_by z r l k)
  return_same r l kind.Main = deeper_alike Y (λ _. value_returned v r l) (λ _. value_returned z r l) r (λ m e. value_returned_same r l)
  return_same r l kind.Int = deeper_alike Y (λ _. value_returned v r l) (λ _. value_returned z r l) r (λ m e. value_returned_same r l)
  return_same r l kind.Void = pure_alike Y (returned l None 0)
  return_same r l kind.Thread = test_then is_no_value (pure (returned l None 0)) (pure (returned l None 0)) refl refl (pure_alike Y (returned l None 0))

  -- ---- calls of the library

  null_closed_same : {B : Type 0} (x : B) → A (null_closed v x) (null_closed z x)
  unfolding null_closed
  null_closed_same x = sign_then s.Comma _ _ (test_then is_null _ _ refl refl (sign_then s.RightParenthesis (pure x) (pure x) (pure_alike Y x)))

  addressed_same : (r : ℕ) → A (addressed v r) (addressed z r)
  unfolding addressed
  addressed_same r = bind_alike Y (address v r) (address z r) (λ p. must (is v s.RightParenthesis) (pure p)) (λ p. must (is z s.RightParenthesis) (pure p)) (address_same v z like Later long r) (λ p. sign_then s.RightParenthesis (pure p) (pure p) (pure_alike Y p))

  initialised_same : (r : ℕ) → A (initialised v r) (initialised z r)
  unfolding initialised
  initialised_same r = bind_alike Y (address v r) (address z r) (null_closed v) (null_closed z) (address_same v z like Later long r) (λ p. null_closed_same p)

  joined_same : (r : ℕ) → A (joined v r) (joined z r)
  unfolding joined
  joined_same r = bind_alike Y (place v r) (place z r) (null_closed v) (null_closed z) (place_same v z like Later long r) (λ p. null_closed_same p)

  acting_same : (act : Place → Stmt) (p : Parser One (Tall Place)) (q : Parser Two (Tall Place)) → A p q → A (acting act p) (acting act q)
  acting_same act p q h = then_pure p q (λ x. alone (act x.tree) x.levels) h

  wait_same : (r l : ℕ) → A (wait v r l) (wait z r l)
  unfolding wait
  wait_same r l =
      bind_alike Y (address v r) (address z r) (λ p. must (is v s.Comma) (addressed v r >>= λ q. pure (waited l p q []))) (λ p. must (is z s.Comma) (addressed z r >>= λ q. pure (waited l p q []))) (address_same v z like Later long r)
      (λ p. sign_then s.Comma (addressed v r >>= λ q. pure (waited l p q [])) (addressed z r >>= λ q. pure (waited l p q [])) (then_pure (addressed v r) (addressed z r) (λ q. waited l p q []) (addressed_same r)))

  take_same : (all : List ℕ) → AMs (take_by v all) (take_by z all)
  take_same all =
      whats (λ a. go_with (λ k. must (is v s.Comma) (pure (all ++ k ∷ []))) (number_of a)) (λ a. go_with (λ k. must (is z s.Comma) (pure (all ++ k ∷ []))) (number_of a))
      (λ a. go_with_same (λ k. must (is v s.Comma) (pure (all ++ k ∷ []))) (λ k. must (is z s.Comma) (pure (all ++ k ∷ []))) (λ k. sign_then s.Comma (pure (all ++ k ∷ [])) (pure (all ++ k ∷ [])) (pure_alike Y (all ++ k ∷ []))) (number_of a)) tt tt

  takes_same : A (takes v) (takes z)
  unfolding takes first_take takes_end
  takes_same =
      bind_alike Y (first_take v >>= more_takes v) (first_take z >>= more_takes z) (takes_end v) (takes_end z)
      (bind_alike Y (first_take v) (first_take z) (more_takes v) (more_takes z) (choice_alike Y (take_by v []) (take_by z []) (take_same [])) (λ all. loop_alike Y (take_by v) (take_by z) take_same all))
      (λ all. sign_then s.Minus _ _ (test_then is_one _ _ refl refl (sign_then s.RightParenthesis (pure all) (pure all) (pure_alike Y all))))

  controlled_wait_same : (r l : ℕ) → A (controlled_wait v r l) (controlled_wait z r l)
  unfolding controlled_wait
  controlled_wait_same r l =
      bind_alike Y (address v r) (address z r) (λ p. must (is v s.Comma) (address v r >>= λ q. must (is v s.Comma) (takes v >>= λ all. pure (waited l p q all))))
      (λ p. must (is z s.Comma) (address z r >>= λ q. must (is z s.Comma) (takes z >>= λ all. pure (waited l p q all)))) (address_same v z like Later long r)
      (λ p. sign_then s.Comma (address v r >>= λ q. must (is v s.Comma) (takes v >>= λ all. pure (waited l p q all))) (address z r >>= λ q. must (is z s.Comma) (takes z >>= λ all. pure (waited l p q all)))
      (bind_alike Y (address v r) (address z r) (λ q. must (is v s.Comma) (takes v >>= λ all. pure (waited l p q all))) (λ q. must (is z s.Comma) (takes z >>= λ all. pure (waited l p q all))) (address_same v z like Later long r)
      (λ q. sign_then s.Comma (takes v >>= λ all. pure (waited l p q all)) (takes z >>= λ all. pure (waited l p q all)) (then_pure (takes v) (takes z) (waited l p q) takes_same))))

  monitor_same : A (monitor v) (monitor z)
  unfolding monitor
  monitor_same =
      choice_alike Y (λ u. go_with (λ k. must (is v s.RightParenthesis) (pure k)) (number_of (seen v u))) (λ t. go_with (λ k. must (is z s.RightParenthesis) (pure k)) (number_of (seen z t)))
      (whats (λ a. go_with (λ k. must (is v s.RightParenthesis) (pure k)) (number_of a)) (λ a. go_with (λ k. must (is z s.RightParenthesis) (pure k)) (number_of a))
      (λ a. go_with_same (λ k. must (is v s.RightParenthesis) (pure k)) (λ k. must (is z s.RightParenthesis) (pure k)) (λ k. sign_then s.RightParenthesis (pure k) (pure k) (pure_alike Y k)) (number_of a)) tt tt)

  numbered_same : (act : ℕ → Stmt) → A (numbered v act) (numbered z act)
  numbered_same act = then_pure (monitor v) (monitor z) (λ k. alone (act k) 0) monitor_same

  scan_same : (r l : ℕ) → A (scan v r l) (scan z r l)
  unfolding scan
  scan_same r l =
      test_then is_number_format _ _ refl refl (sign_then s.Comma (acting (lined.Read l) (addressed v r)) (acting (lined.Read l) (addressed z r)) (acting_same (lined.Read l) (addressed v r) (addressed z r) (addressed_same r)))

  print_behind_same : (r l : ℕ) (format : List ℕ) → A (print_behind v r l format) (print_behind z r l format)
  unfolding print_behind
  print_behind_same r l format = choice_alike Y (λ u. print_by v r l format (seen v u)) (λ t. print_by z r l format (seen z t)) (whats (print_by v r l format) (print_by z r l format) go tt tt)
    where
      go : (a : What) → AM (print_by v r l format a) (print_by z r l format a)
      go (What.Sign s.RightParenthesis) = pure_alike Y (printed l format no_arguments)
      go (What.Sign s.Comma) = deeper_alike Y (λ _. print_with v r l format) (λ _. print_with z r l format) r (λ m e. then_pure (some_arguments v r) (some_arguments z r) (printed l format) (some_arguments_same v z like Later long r))
      go _ = tt

  print_same : (r l : ℕ) → A (print v r l) (print z r l)
  unfolding print
  print_same r l =
      choice_alike Y (λ u. go_with (print_behind v r l) (text_of (seen v u))) (λ t. go_with (print_behind z r l) (text_of (seen z t)))
      (whats (λ a. go_with (print_behind v r l) (text_of a)) (λ a. go_with (print_behind z r l) (text_of a)) (λ a. go_with_same (print_behind v r l) (print_behind z r l) (print_behind_same r l) (text_of a)) tt tt)

  create_argument_same : (r l : ℕ) (p : Tall Place) (f : List ℕ) → A (create_argument v r l p f) (create_argument z r l p f)
  unfolding create_argument
  create_argument_same r l p f =
      bind_alike Y (argument v r) (argument z r) (λ e. close v s.RightParenthesis (fits r e.levels) (pure (created l p f e))) (λ e. close z s.RightParenthesis (fits r e.levels) (pure (created l p f e))) (argument_same v z like Later long r)
      (λ e. close_same v z like Later long s.RightParenthesis (fits r e.levels) (pure (created l p f e)) (pure (created l p f e)) (pure_alike Y (created l p f e)))

  create_function_same : (r l : ℕ) (p : Tall Place) → A (create_function v r l p) (create_function z r l p)
  unfolding create_function
  create_function_same r l p =
      choice_alike Y (named v (behind_function v r l p)) (named z (behind_function z r l p))
      (named_same v z like Later long (behind_function v r l p) (behind_function z r l p) (λ f. sign_then s.Comma (create_argument v r l p f) (create_argument z r l p f) (create_argument_same r l p f)))

  create_same : (r l : ℕ) → A (create v r l) (create z r l)
  unfolding create
  create_same r l =
      bind_alike Y (address v r) (address z r) (λ p. must (is v s.Comma) (must (is_null_at v) (must (is v s.Comma) (create_function v r l p)))) (λ p. must (is z s.Comma) (must (is_null_at z) (must (is z s.Comma) (create_function z r l p))))
      (address_same v z like Later long r) (λ p. sign_then s.Comma _ _ (test_then is_null _ _ refl refl (sign_then s.Comma (create_function v r l p) (create_function z r l p) (create_function_same r l p))))

  library_same : (r l : ℕ) (x : Routine) → A (library v r l x) (library z r l x)
  library_same r l routine.Print = print_same r l
  library_same r l routine.Scan = scan_same r l
  library_same r l routine.Create = create_same r l
  library_same r l routine.Join = acting_same (lined.Join l) (joined v r) (joined z r) (joined_same r)
  library_same r l routine.InitMutex = acting_same (lined.InitMutex l) (initialised v r) (initialised z r) (initialised_same r)
  library_same r l routine.InitCondition = acting_same (lined.InitCond l) (initialised v r) (initialised z r) (initialised_same r)
  library_same r l routine.Lock = acting_same (lined.Lock l) (addressed v r) (addressed z r) (addressed_same r)
  library_same r l routine.Unlock = acting_same (lined.Unlock l) (addressed v r) (addressed z r) (addressed_same r)
  library_same r l routine.Wait = wait_same r l
  library_same r l routine.Signal = acting_same (lined.Signal l) (addressed v r) (addressed z r) (addressed_same r)
  library_same r l routine.Broadcast = acting_same (lined.Broadcast l) (addressed v r) (addressed z r) (addressed_same r)
  library_same r l routine.Take = numbered_same (lined.Take l)
  library_same r l routine.Give = numbered_same (lined.Give l)
  library_same r l routine.ControlledWait = controlled_wait_same r l

  -- ---- simple statements

  call_by_same : (r l : ℕ) (f : Option (List ℕ)) (x : Option Routine) → AM (call_by v r l f x) (call_by z r l f x)
  call_by_same r l (Some f) x = then_pure (call_arguments v r f) (call_arguments z r f) (call_statement l) (call_arguments_same r f)
  call_by_same r l None x = go_with_same (library v r l) (library z r l) (library_same r l) x

  called_same : (r : ℕ) (u : One) (t : Two) → v.item u ≡ z.item t → AM (called_by v r u) (called_by z r t)
  called_same r u t e =
      subst (λ (x : Item). AM (call_by v r (line_in x) (callee (what_at x)) (routine_of v.null (what_at x))) (called_by z r t)) (sym e)
      (subst (λ (b : Bool). AM (call_by v r (line z t) (callee (seen z t)) (routine_of b (seen z t))) (called_by z r t)) (sym like.null) (call_by_same r (line z t) (callee (seen z t)) (routine_of z.null (seen z t))))

  parenthesis_same : (r : ℕ) (u : One) (t : Two) → v.item u ≡ z.item t → AMs (parenthesis_by v r u) (parenthesis_by z r t)
  parenthesis_same r u t e =
      whats (λ a. if is_sign s.LeftParenthesis a then called_by v r u else Stop) (λ a. if is_sign s.LeftParenthesis a then called_by z r t else Stop) (λ a. go (is_sign s.LeftParenthesis a)) tt tt
    where
      go : (b : Bool) → AM (cond b (called_by v r u) Stop) (cond b (called_by z r t) Stop)
      go true = called_same r u t e
      go false = tt

  lines_same : (u : One) (t : Two) → v.item u ≡ z.item t → line v u ≡ line z t
  lines_same u t e = ap line_in e

  change_behind_same : (r l : ℕ) (n : List ℕ) → A (change_behind_name v r l n) (change_behind_name z r l n)
  change_behind_same r l n = bind_alike Y (place_behind v r n) (place_behind z r n) (assigned v r l) (assigned z r l) (place_behind_same v z like Later long r n) (assigned_same r l)

  simple_named_same : (r : ℕ) (u : One) (t : Two) (n : List ℕ) → v.item u ≡ z.item t → A (simple_named v r u n) (simple_named z r t n)
  unfolding simple_named
  simple_named_same r u t n e =
      commit_alike Y (parenthesis_by v r u) (parenthesis_by z r t) (change_behind_name v r (line v u) n) (change_behind_name z r (line z t) n) (parenthesis_same r u t e)
      (subst (λ (l : ℕ). A (change_behind_name v r l n) (change_behind_name z r (line z t) n)) (sym (lines_same u t e)) (change_behind_same r (line z t) n))

  step_named_same : (r : ℕ) (u : One) (t : Two) (n : List ℕ) → v.item u ≡ z.item t → A (step_named v r u n) (step_named z r t n)
  unfolding step_named
  step_named_same r u t n e =
      bind_alike Y (place_behind v r n) (place_behind z r n) (stepped v r (line v u)) (stepped z r (line z t)) (place_behind_same v z like Later long r n)
      (λ p. subst (λ (l : ℕ). A (stepped v r l p) (stepped z r (line z t) p)) (sym (lines_same u t e)) (stepped_same r (line z t) p))

  counted_same : (r l : ℕ) (o : Option Op) → AM (go_with (count_first v r l) o) (go_with (count_first z r l) o)
  counted_same r l o = go_with_same (count_first v r l) (count_first z r l) (count_first_same r l) o

  counted_at : (r : ℕ) (u : One) (t : Two) → v.item u ≡ z.item t → AM (counted_by v r u) (counted_by z r t)
  counted_at r u t e = subst (λ (x : Item). AM (go_with (count_first v r (line_in x)) (counter (what_at x))) (counted_by z r t)) (sym e) (counted_same r (line z t) (counter (seen z t)))

  begun_same : (p : List ℕ → Parser One (Tall (List Stmt))) (q : List ℕ → Parser Two (Tall (List Stmt))) (k : Move One (Tall (List Stmt))) (m : Move Two (Tall (List Stmt))) → ((n : List ℕ) → A (p n) (q n)) → AM k m → (o : Option (List ℕ)) → AM (begun_by p k o) (begun_by q m o)
  begun_same p q k m h d (Some n) = h n
  begun_same p q k m h d None = d

  step_begun_same : (r : ℕ) → AMs (step_begun v r) (step_begun z r)
  step_begun_same r =
      alike_moves Y (λ u t e. subst (λ (x : Item). AM (begun_by (step_named v r u) (counted_by v r u) (name_of (what_at x))) (step_begun z r t)) (sym e) (begun_same (step_named v r u) (step_named z r t) (counted_by v r u) (counted_by z r t) (λ n. step_named_same r u t n e) (counted_at r u t e) (name_of (seen z t))))
      (λ t b. by_bars (λ a. Stays Y (begun_by (step_named z r t) (go_with (count_first z r (line z t)) (counter a)) (name_of a))) tt tt (z.item t) b)

  other_begun_at : (r : ℕ) (u : One) (t : Two) → v.item u ≡ z.item t → AM (other_begun v r u) (other_begun z r t)
  other_begun_at r u t e = subst (λ (x : Item). AM (begun_by (simple_named v r u) (counted_by v r u) (name_of (what_at x))) (other_begun z r t)) (sym e) (begun_same (simple_named v r u) (simple_named z r t) (counted_by v r u) (counted_by z r t) (λ n. simple_named_same r u t n e) (counted_at r u t e) (name_of (seen z t)))

  simple_begun_same : (k : Kind) (r : ℕ) → AMs (λ u. simple_begun v k r u (seen v u)) (λ t. simple_begun z k r t (seen z t))
  simple_begun_same k r =
      alike_moves Y (λ u t e. subst (λ (x : Item). AM (simple_begun v k r u (what_at x)) (simple_begun z k r t (seen z t))) (sym e) (go u t e (seen z t)))
      (λ t b. by_bars (λ a. a ≡ seen z t → Stays Y (simple_begun z k r t a)) (λ d. calm t What.Definition d tt) (λ d. calm t What.Repeated d tt) (z.item t) b refl)
    where
      go : (u : One) (t : Two) → v.item u ≡ z.item t → (a : What) → AM (simple_begun v k r u a) (simple_begun z k r t a)
      go u t e (What.Fixed w.Int) = declarators_same r
      go u t e (What.Fixed w.Return) = subst (λ (l : ℕ). AM (return_by v r l k) (return_by z r (line z t) k)) (sym (lines_same u t e)) (return_same r (line z t) k)
      go u t e _ = other_begun_at r u t e

      calm : (t : Two) (a : What) → a ≡ seen z t → Stays Y (begun_by (simple_named z r t) (go_with (count_first z r (line z t)) (counter a)) (name_of a)) → Stays Y (other_begun z r t)
      calm t a d h = subst (λ (x : What). Stays Y (begun_by (simple_named z r t) (go_with (count_first z r (line z t)) (counter x)) (name_of x))) d h

  pub step_same : (closer : Sign) (r : ℕ) → AMs (step_by v closer r) (step_by z closer r)
  step_same closer r = then_alike Y (step_begun v r) (step_begun z r) (ended v closer r) (ended z closer r) (step_begun_same r) (ended_same closer r)

  pub simple_same : (k : Kind) (r : ℕ) → AMs (simple_by v k r) (simple_by z k r)
  simple_same k r = then_alike Y (λ u. simple_begun v k r u (seen v u)) (λ t. simple_begun z k r t (seen z t)) (ended v s.Semicolon r) (ended z s.Semicolon r) (simple_begun_same k r) (ended_same s.Semicolon r)
