-- No parser of this crate takes a token back, so the bound on the turns of its loop is never met.
use Rattle.std.proofs.Common.{ℕ, zero, suc, Bool, true, false, cond, List, [], ◌∷◌, Option, Some, None, arith}
use Rattle.c_lexer.specs.declared.token.Sign.{Sign}
use Rattle.c_lexer.specs.declared.token.Sign.TheVariants as s
use Rattle.c_tree.specs.declared.program.Kind.{Kind}
use Rattle.c_tree.specs.declared.program.Kind.TheVariants as kind
use Rattle.c_tree.specs.Expressions.{Place}
use Rattle.c_tree.specs.Lined.{Stmt}
use Rattle.c_grammar.specs.declared.words.FixedWord.TheVariants as w
use Rattle.c_grammar.specs.Items.{What, callee, name_of}
use Rattle.c_grammar.specs.Levels.{Tall}
use Rattle.parse_laws.specs.Parser.{Parser, Move, Stop, Deep}
use Rattle.parse_laws.proofs.Loops.{Shrinks}
use Rattle.parse_laws.proofs.Sound.{Sound, SoundMove, stop_sound, deep_sound, go_sound}
use Rattle.c_expressions.specs.Parsers.{Sight, seen, is, goes_on, fits}
use Rattle.c_expressions.proofs.Shorter.{less_named, Less, Fewer, less_pure, less_commit, less_choice, fewer_choice, fewer_less, less_when, less_deeper, less_shrinks, less_bind, fewer_bind, less_then, less_must, less_loop, less_close_by, less_close}
use Rattle.c_expressions.proofs.PartsShorter.{fewer_expression, less_place_behind, fewer_place, less_address, less_some_arguments, less_arguments, fewer_argument}
use Rattle.c_simple.specs.declared.token.Way.{Way}
use Rattle.c_simple.specs.declared.token.Way.TheVariants as way
use Rattle.c_simple.specs.declared.token.Routine.{Routine}
use Rattle.c_simple.specs.declared.token.Routine.TheVariants as routine
use Rattle.c_simple.specs.Words.{way_of, counter, routine_of, number_of, text_of}
use Rattle.c_simple.specs.Parsers.{line, go_with, ended, Source, value, value_first, behind_callee, value_or_call, assigned_by, stepped_by, count_first, declared, declarator, comma_by, declarators, return_by, null_closed, addressed, initialised, joined, acting, wait, take_by, first_take, takes_end, takes, controlled_wait, monitor, numbered, scan, print_by, print_behind, print, create_argument, create_function, create, library, call_by, called_by, parenthesis_by, simple_named, step_named, counted_by, begun_by, simple_begun, step_by, simple_by}

module _ {Token : Type 0} (v : Sight Token) where
  less_with : {A B : Type 0} {p : B → Parser Token A} (o : Option B) → ((x : B) → Sound (p x) Less) → SoundMove Less (go_with p o)
  less_with None h = stop_sound
  less_with (Some x) h = go_sound (h x)

  less_ended : (closer : Sign) (r : ℕ) (x : Tall (List Stmt)) → Sound (ended v closer r x) Less
  less_ended closer r x = less_close v closer (fits (suc r) x.levels) less_pure

  -- ---- values

  fewer_value : (r : ℕ) → Sound (value v r) Fewer
  fewer_value r = fewer_bind (fewer_expression v r) (λ e. less_pure)

  less_value_first : (r : ℕ) (u : Token) (f : List ℕ) → Sound (value_first v r u f) Less
  less_value_first zero u f = less_commit (λ t. go (goes_on v t)) less_pure
    where
      go : (b : Bool) → SoundMove {Token = Token} {A = Source} Less (cond b Deep Stop)
      go true = deep_sound
      go false = stop_sound
  less_value_first (suc r) u f = record { spelled = λ ts x rest e. let le = (fewer_value (suc r)).spelled (u ∷ ts) x rest e in omega (arith, le) }

  less_behind_callee : (r : ℕ) (u : Token) (f : List ℕ) → Sound (behind_callee v r u f) Less
  unfolding behind_callee
  less_behind_callee r u f = less_commit (λ t. less_when (is v s.LeftParenthesis t) (less_bind (less_bind (less_arguments v r) (λ args. less_pure)) (λ c. less_pure))) (less_value_first r u f)

  less_value_or_call : (r : ℕ) → Sound (value_or_call v r) Less
  unfolding value_or_call
  less_value_or_call r = less_commit (λ u. less_named v (callee (seen v u)) (less_behind_callee r u)) (fewer_less (fewer_value r))

  -- ---- assignments

  pub less_assigned_by : (r l : ℕ) (p : Tall Place) (a : Way) → SoundMove Less (assigned_by v r l p a)
  less_assigned_by r l p way.Set = go_sound (less_bind (less_value_or_call r) (λ x. less_pure))
  less_assigned_by r l p (way.Change o) = less_deeper r (λ m e. less_bind (fewer_less (fewer_expression v r)) (λ x. less_pure))
  less_assigned_by r l p (way.Count o) = go_sound less_pure
  less_assigned_by r l p way.Other = stop_sound

  pub less_stepped_by : (r l : ℕ) (p : Tall Place) (a : Way) → SoundMove Less (stepped_by v r l p a)
  less_stepped_by r l p way.Set = less_deeper r (λ m e. less_bind (fewer_less (fewer_expression v r)) (λ x. less_pure))
  less_stepped_by r l p (way.Change o) = less_deeper r (λ m e. less_bind (fewer_less (fewer_expression v r)) (λ x. less_pure))
  less_stepped_by r l p (way.Count o) = go_sound less_pure
  less_stepped_by r l p way.Other = stop_sound

  less_counted_by : (r : ℕ) (u : Token) → SoundMove Less (counted_by v r u)
  unfolding count_first
  less_counted_by r u = less_with (counter (seen v u)) (λ o. less_bind (fewer_less (fewer_place v r)) (λ p. less_pure))

  -- ---- declarations

  less_declared : (r l : ℕ) (n : List ℕ) → Sound (declared v r l n) Less
  unfolding declared
  less_declared r l n = less_commit (λ t. less_when (is v s.Assign t) (less_bind (less_value_or_call r) (λ x. less_pure))) less_pure

  fewer_declarator : (r : ℕ) → Sound (declarator v r) Fewer
  unfolding declarator
  fewer_declarator r = fewer_choice (λ u. less_named v (name_of (seen v u)) (less_declared r (line v u)))

  less_comma_by : (r : ℕ) (all : Tall (List Stmt)) (u : Token) → SoundMove Less (comma_by v r all u)
  less_comma_by r all u = less_close_by v s.Comma (fits (suc r) all.levels) (less_bind (fewer_less (fewer_declarator r)) (λ x. less_pure)) u

  -- each turn of the loop takes a token
  pub comma_shrinks : (r : ℕ) (all : Tall (List Stmt)) (u : Token) → Shrinks (comma_by v r all u)
  comma_shrinks r all u = less_shrinks (less_comma_by r all u)

  less_declarators : (r : ℕ) → Sound (declarators v r) Less
  unfolding declarators
  less_declarators r = less_bind (fewer_less (fewer_declarator r)) (less_loop (less_comma_by r))

  -- ---- results

  less_return_by : (r l : ℕ) (k : Kind) → SoundMove Less (return_by v r l k)
  less_return_by r l kind.Main = less_deeper r (λ m e. less_bind (fewer_less (fewer_expression v r)) (λ x. less_pure))
  less_return_by r l kind.Int = less_deeper r (λ m e. less_bind (fewer_less (fewer_expression v r)) (λ x. less_pure))
  less_return_by r l kind.Void = go_sound less_pure
  less_return_by r l kind.Thread = go_sound (less_must _ less_pure)

  -- ---- calls of the library

  less_null_closed : {A : Type 0} (x : A) → Sound (null_closed v x) Less
  unfolding null_closed
  less_null_closed x = less_must _ (less_must _ (less_must _ less_pure))

  less_addressed : (r : ℕ) → Sound (addressed v r) Less
  unfolding addressed
  less_addressed r = less_bind (less_address v r) (λ p. less_must _ less_pure)

  less_initialised : (r : ℕ) → Sound (initialised v r) Less
  unfolding initialised
  less_initialised r = less_bind (less_address v r) less_null_closed

  less_joined : (r : ℕ) → Sound (joined v r) Less
  unfolding joined
  less_joined r = less_bind (fewer_less (fewer_place v r)) less_null_closed

  less_acting : (act : Place → Stmt) {p : Parser Token (Tall Place)} → Sound p Less → Sound (acting act p) Less
  less_acting act x = less_bind x (λ p. less_pure)

  less_numbered : (act : ℕ → Stmt) → Sound (numbered v act) Less
  unfolding monitor
  less_numbered act = less_bind (less_choice (λ u. less_with (number_of (seen v u)) (λ k. less_must _ less_pure))) (λ k. less_pure)

  less_take_by : (all : List ℕ) (u : Token) → SoundMove Less (take_by v all u)
  less_take_by all u = less_with (number_of (seen v u)) (λ k. less_must _ less_pure)

  -- so does each turn of the loop over the monitors of a wait
  pub take_shrinks : (all : List ℕ) (u : Token) → Shrinks (take_by v all u)
  take_shrinks all u = less_shrinks (less_take_by all u)

  less_takes : Sound (takes v) Less
  unfolding takes first_take takes_end
  less_takes = less_bind (less_bind (less_choice (less_take_by [])) (less_loop less_take_by)) (λ all. less_must _ (less_must _ (less_must _ less_pure)))

  less_print_by : (r l : ℕ) (f : List ℕ) (a : What) → SoundMove Less (print_by v r l f a)
  less_print_by r l f (What.Sign s.RightParenthesis) = go_sound less_pure
  less_print_by r l f (What.Sign s.Comma) = less_deeper r (λ m e. less_bind (less_some_arguments v r) (λ x. less_pure))
  less_print_by r l f _ = stop_sound

  less_print : (r l : ℕ) → Sound (print v r l) Less
  unfolding print print_behind
  less_print r l = less_choice (λ u. less_with (text_of (seen v u)) (λ f. less_choice (λ t. less_print_by r l f (seen v t))))

  less_create : (r l : ℕ) → Sound (create v r l) Less
  unfolding create create_function create_argument
  less_create r l =
      less_bind (less_address v r) (λ p. less_must _ (less_must _ (less_must _ (less_choice (λ u. less_named v (name_of (seen v u)) (λ f. less_must _ (less_bind (fewer_less (fewer_argument v r)) (λ e. less_close v _ _ less_pure))))))))

  less_library : (r l : ℕ) (x : Routine) → Sound (library v r l x) Less
  unfolding wait controlled_wait scan
  less_library r l routine.Print = less_print r l
  less_library r l routine.Scan = less_must _ (less_must _ (less_acting _ (less_addressed r)))
  less_library r l routine.Create = less_create r l
  less_library r l routine.Join = less_acting _ (less_joined r)
  less_library r l routine.InitMutex = less_acting _ (less_initialised r)
  less_library r l routine.InitCondition = less_acting _ (less_initialised r)
  less_library r l routine.Lock = less_acting _ (less_addressed r)
  less_library r l routine.Unlock = less_acting _ (less_addressed r)
  less_library r l routine.Wait = less_bind (less_address v r) (λ p. less_must _ (less_bind (less_addressed r) (λ q. less_pure)))
  less_library r l routine.Signal = less_acting _ (less_addressed r)
  less_library r l routine.Broadcast = less_acting _ (less_addressed r)
  less_library r l routine.Take = less_numbered _
  less_library r l routine.Give = less_numbered _
  less_library r l routine.ControlledWait =
      less_bind (less_address v r) (λ p. less_must _ (less_bind (less_address v r) (λ q. less_must _ (less_bind less_takes (λ all. less_pure)))))

  -- ---- statements

  less_call_by : (r l : ℕ) (f : Option (List ℕ)) (x : Option Routine) → SoundMove Less (call_by v r l f x)
  less_call_by r l (Some f) x = go_sound (less_bind (less_bind (less_arguments v r) (λ args. less_pure)) (λ c. less_pure))
  less_call_by r l None x = less_with x (less_library r l)

  less_parenthesis_by : (r : ℕ) (u t : Token) → SoundMove Less (parenthesis_by v r u t)
  less_parenthesis_by r u t = go (is v s.LeftParenthesis t)
    where
      go : (b : Bool) → SoundMove Less (cond b (called_by v r u) Stop)
      go true = less_call_by r (line v u) (callee (seen v u)) (routine_of v.null (seen v u))
      go false = stop_sound

  less_simple_named : (r : ℕ) (u : Token) (n : List ℕ) → Sound (simple_named v r u n) Less
  unfolding simple_named
  less_simple_named r u n = less_commit (less_parenthesis_by r u) (less_bind (less_place_behind v r n) (λ p. less_choice (λ t. less_assigned_by r (line v u) p (way_of (seen v t)))))

  less_step_named : (r : ℕ) (u : Token) (n : List ℕ) → Sound (step_named v r u n) Less
  unfolding step_named
  less_step_named r u n = less_bind (less_place_behind v r n) (λ p. less_choice (λ t. less_stepped_by r (line v u) p (way_of (seen v t))))

  less_begun : {p : List ℕ → Parser Token (Tall (List Stmt))} {other : Move Token (Tall (List Stmt))} (o : Option (List ℕ)) → ((n : List ℕ) → Sound (p n) Less) → SoundMove Less other → SoundMove Less (begun_by p other o)
  less_begun (Some n) x y = go_sound (x n)
  less_begun None x y = y

  less_simple_begun : (k : Kind) (r : ℕ) (u : Token) (a : What) → SoundMove Less (simple_begun v k r u a)
  less_simple_begun k r u (What.Fixed w.Int) = go_sound (less_declarators r)
  less_simple_begun k r u (What.Fixed w.Return) = less_return_by r (line v u) k
  less_simple_begun k r u _ = less_begun (name_of (seen v u)) (less_simple_named r u) (less_counted_by r u)

  -- what follows the first token of a simple statement is no longer
  pub less_simple : (k : Kind) (r : ℕ) (u : Token) → SoundMove Less (simple_by v k r u)
  less_simple k r u = less_then (less_simple_begun k r u (seen v u)) (less_ended s.Semicolon r)

  pub less_step : (closer : Sign) (r : ℕ) (u : Token) → SoundMove Less (step_by v closer r u)
  less_step closer r u = less_then (less_begun (name_of (seen v u)) (less_step_named r u) (less_counted_by r u)) (less_ended closer r)
