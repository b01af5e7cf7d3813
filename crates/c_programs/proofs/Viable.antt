-- A program can be completed wherever it was begun.
use Rattle.std.proofs.Common.{◌≡◌, ℕ, ◌<◌, Bool, true, false, List, Option, Some, None, refl}
use Rattle.c_lexer.specs.declared.token.Sign.TheVariants as signs
use Rattle.c_tree.specs.Lined.{Program}
use Rattle.c_tree.specs.declared.program.Kind.{Kind}
use Rattle.c_grammar.specs.declared.words.FixedWord.TheVariants as w
use Rattle.c_grammar.specs.Items.{What}
use Rattle.c_grammar.specs.Levels.{Tall}
use Rattle.c_grammar.specs.Programs.{empty_program, with_slots}
use Rattle.parse_laws.specs.Parser.{Outcome, Got, Failed, Parser, and_then, ◌>>=◌, pure, refuse, commit, and_go, must}
use Rattle.parse_laws.proofs.Viable.{Local, Viable, Follows, ViableMove, same_viable, stop_move, go_move, when_move, move_then, pure_viable, pure_follows, bind_viable, bind_follows, choice_viable, option_follows, follows_viable, must_follows, token_follows}
use Rattle.parse_laws.proofs.Loops.{loop_follows}
use Rattle.c_expressions.specs.Parsers.{Sight, seen, is}
use Rattle.c_expressions.proofs.Words.{Words, SeenAs, begins_declaration}
use Rattle.c_expressions.proofs.Closers.{is_itself}
use Rattle.c_declarations.specs.declared.tree.Sort.{Sort}
use Rattle.c_declarations.specs.declared.tree.Sort.TheVariants as sort
use Rattle.c_declarations.specs.declared.tree.Head.{Head}
use Rattle.c_declarations.specs.declared.tree.Begun.{Begun}
use Rattle.c_declarations.specs.declared.tree.Begun.TheVariants as begun
use Rattle.c_declarations.specs.Parsers.{line, is_fixed, behind_int}
use Rattle.c_declarations.proofs.Sounds.{behind_int_sound}
use Rattle.c_declarations.proofs.Viable.{any, is_as, CapacityWords, behind_int_viable, behind_void_viable, objects_viable}
use Rattle.c_declarations.proofs.Waits.{head_or_wait_viable}
use Rattle.c_statements.specs.Parsers.{body, slot_list}
use Rattle.c_programs.specs.declared.token.Opening.{Opening}
use Rattle.c_programs.specs.declared.token.Opening.TheVariants as o
use Rattle.c_programs.specs.Words.{outer_opening}
use Rattle.c_programs.specs.Parsers.{Views, Reading, read, function_behind, function_added, finished, ints_added, void_added, objects_added, slots_added, declared_by, static_added, outer_by, turn_by, turn, program, with_capacities}
use Rattle.c_programs.proofs.OneAhead.{optional_function, void_or_wait, finished_step, ints_step, first_step_by, first_step, program_step, one_ahead}

-- What a sight has to offer: tokens to complete texts with, a number that a first value may be, bodies and lists of threads.
pub record Offers {Token : Type 0} (v : Sight Token) (holds : ℕ → Bool) : Type 0 where
  pub words : Words v
  pub value_holds : holds words.value ≡ true
  pub bodies : (kind : Kind) (r : ℕ) → 0 < r → Viable (λ u. is v signs.RightBrace u) r (λ s. body v kind s)
  pub slots : (ends : Token → Bool) (r : ℕ) → Viable ends r (λ s. slot_list v)

module _ {Token : Type 0} (v : Sight Token) (holds : ℕ → Bool) (offers : Offers v holds) (r : ℕ) (some : 0 < r) where
  behind_sign : {A : Type 0} {ends : Token → Bool} {p : ℕ → Parser Token A} → Viable ends r p → Follows (any v) ends r (λ s. must (is v signs.LeftBrace) (p s))
  behind_sign y = must_follows (is v signs.LeftBrace) (offers.words.sign signs.LeftBrace) (is_itself v offers.words signs.LeftBrace) refl y

  function_follows : {ends : Token → Bool} (h : Head) → Follows (any v) ends r (λ s. function_behind v s h)
  unfolding function_behind
  function_follows h =
      behind_sign (bind_viable {before = λ u. is v signs.RightBrace u} (offers.bodies h.kind r some)
      (λ b. token_follows (offers.words.sign signs.RightBrace) (is_itself v offers.words signs.RightBrace) (is_itself v offers.words signs.RightBrace) (λ u e. pure_viable)))

  added_follows : {ends : Token → Bool} (p : Tall Program) (h : Head) → Follows (any v) ends r (λ s. function_added v s p h)
  added_follows p h = bind_follows (function_follows {ends = any v} h) (λ f. pure_follows (λ u e. refl))

  pub added_local : {ends : Token → Bool} (p : Tall Program) (h : Head) → Local ends r (λ s. function_added v s p h)
  added_local p h = (added_follows p h).local

  -- where something stands before it, no capacities are read
  abbrev plain_finished : Tall Program → ℕ → Begun → Parser Token (Tall Program)
  plain_finished p s (begun.Cells all) = finished v s p (begun.Cells all)
  plain_finished p s (begun.Head h) = finished v s p (begun.Head h)
  plain_finished p s (begun.Capacities c) = pure p

  plain_follows : {ends : Token → Bool} (p : Tall Program) (x : Begun) → Follows (any v) ends r (λ s. plain_finished p s x)
  plain_follows p (begun.Cells all) = pure_follows (λ u e. refl)
  plain_follows p (begun.Head h) = added_follows p h
  plain_follows p (begun.Capacities c) = pure_follows (λ u e. refl)

  no_capacities : (l s : ℕ) (p : Tall Program) (ts : List Token) → and_then (behind_int v holds false l ts) (plain_finished p s) ≡ and_then (behind_int v holds false l ts) (finished v s p)
  no_capacities l s p ts = go (behind_int v holds false l ts) refl
    where
      differs : false ≡ true → ⊥
      differs e = cc

      go : (out : Outcome Token Begun) → behind_int v holds false l ts ≡ out → and_then out (plain_finished p s) ≡ and_then out (finished v s p)
      go (Got (begun.Cells all) rest) e = refl
      go (Got (begun.Head h) rest) e = refl
      go (Got (begun.Capacities c) rest) e = absurd (differs ((behind_int_sound v holds false l).spelled ts (begun.Capacities c) rest e).0)
      go (Failed f rest) e = refl

  no_first : false ≡ true → CapacityWords v offers.words
  no_first e = absurd cc

  ints_viable : {ends : Token → Bool} (l : ℕ) (p : Tall Program) → Viable ends r (λ s. ints_added v holds s false l p)
  unfolding ints_added
  ints_viable l p = same_viable {p = λ s. behind_int v holds false l >>= plain_finished p s} (λ s ts. no_capacities l s p ts) (bind_viable (behind_int_viable v offers.words holds offers.value_holds false no_first l) (λ x. plain_follows p x))

  -- ---- what the text begins with, by one token after the other

  module _ (here : CapacityWords v offers.words) where
    optional_follows : {ends : Token → Bool} (p : Tall Program) (h : Option Head) → Follows (any v) ends r (λ s. optional_function v holds s p h)
    optional_follows p None = pure_follows (λ u e. refl)
    optional_follows p (Some h) = added_follows p h

    void_or_wait_follows : (p : Tall Program) → Follows (any v) (λ u. false) r (λ s. void_or_wait v holds s p)
    void_or_wait_follows p =
        option_follows (λ u e. refl) (λ s u e. absurd (differs e)) (λ u. when_move (is_fixed v w.Void u) (λ e. bind_viable {before = any v} (head_or_wait_viable v offers.words here (line v u)) (λ h. optional_follows p h)))
      where
        differs : false ≡ true → ⊥
        differs e = cc

    step_follows : (p : Tall Program) (x : Begun) → Follows (any v) (λ u. false) r (λ s. finished_step v holds s p x)
    step_follows p (begun.Cells all) = pure_follows (λ u e. refl)
    step_follows p (begun.Head h) = added_follows p h
    step_follows p (begun.Capacities c) = void_or_wait_follows (with_capacities p c)

    pub ints_step_viable : (l : ℕ) (p : Tall Program) → Viable (λ u. false) r (λ s. ints_step v holds s l p)
    ints_step_viable l p = bind_viable (behind_int_viable v offers.words holds offers.value_holds true (λ e. here) l) (λ x. step_follows p x)

  -- ---- what stands behind that

  void_viable : {ends : Token → Bool} → SeenAs v (is_as v w.Void) → (l : ℕ) (p : Tall Program) → Viable ends r (λ s. void_added v s l p)
  unfolding void_added
  void_viable x l p = bind_viable (behind_void_viable v offers.words x l) (λ h. added_follows p h)

  objects_grow : {ends : Token → Bool} (o : Sort) (p : Tall Program) → Viable ends r (λ s. objects_added v o p)
  unfolding objects_added
  objects_grow o p = bind_viable {before = any v} (objects_viable v offers.words o) (λ all. pure_follows (λ u e. refl))

  slots_grow : {ends : Token → Bool} (p : Tall Program) → Viable ends r (λ s. slots_added v p)
  unfolding slots_added
  slots_grow p = bind_viable {before = any v} (offers.slots (any v) r) (λ all. pure_follows {a = with_slots p all} (λ u e. refl))

  opening_void : (a : What) → outer_opening a ≡ o.Void → a ≡ What.Fixed w.Void
  opening_void (What.Fixed w.Void) e = refl
  opening_void _ e = absurd cc

  declared_move : {ends : Token → Bool} (p : Tall Program) (l : ℕ) (u : Token) (x : Opening) → outer_opening (seen v u) ≡ x → ViableMove ends r (λ s. declared_by v holds s p l x)
  declared_move p l u o.Int e = go_move (ints_viable l p)
  declared_move p l u o.Void e = go_move (void_viable (u, opening_void (seen v u) e) l p)
  declared_move p l u o.Mutex e = go_move (objects_grow sort.Mutex p)
  declared_move p l u o.Condition e = go_move (objects_grow sort.Condition p)
  declared_move p l u o.Thread e = go_move (slots_grow p)
  declared_move p l u _ e = stop_move

  static_viable : {ends : Token → Bool} (p : Tall Program) → SeenAs v (λ a. begins_declaration a ≡ true) → Viable ends r (λ s. static_added v holds s p)
  unfolding static_added
  static_viable {ends = ends} p x = by (seen v x.0) refl x.1
    where
      moves : (u : Token) → ViableMove ends r (λ s. declared_by v holds s p (line v u) (outer_opening (seen v u)))
      moves u = declared_move p (line v u) u (outer_opening (seen v u)) refl

      by : (a : What) → seen v x.0 ≡ a → begins_declaration a ≡ true → Viable ends r (λ s. commit (λ u. declared_by v holds s p (line v u) (outer_opening (seen v u))) refuse)
      by (What.Fixed w.Int) e b = choice_viable moves x.0 (λ s le. rw e refl) (ints_viable (line v x.0) p)
      by (What.Fixed w.Void) e b = choice_viable moves x.0 (λ s le. rw e refl) (void_viable (x.0, e) (line v x.0) p)
      by (What.Fixed w.Thread) e b = choice_viable moves x.0 (λ s le. rw e refl) (slots_grow p)
      by (What.Fixed w.Mutex) e b = choice_viable moves x.0 (λ s le. rw e refl) (objects_grow sort.Mutex p)
      by (What.Fixed w.Condition) e b = choice_viable moves x.0 (λ s le. rw e refl) (objects_grow sort.Condition p)
      by _ e b = absurd cc

  pub outer_move : {ends : Token → Bool} (p : Tall Program) (l : ℕ) (u : Token) (x : Opening) → outer_opening (seen v u) ≡ x → ViableMove ends r (λ s. outer_by v holds s p l x)
  outer_move p l u o.Static e = when_move v.declarations (λ d. static_viable p (offers.words.declaration d))
  outer_move p l u x e = declared_move p l u x e

module _ {Token Definitions : Type 0} (views : Views Token Definitions) (offers : (d : Definitions) → Offers (views.sight d) views.holds) (here : CapacityWords (views.sight views.none) (offers views.none).words) (r : ℕ) (some : 0 < r) where
  -- what stands outside functions closes itself; a text closes nothing else
  abbrev never : Token → Bool
  never u = false

  abbrev always : Token → Bool
  always u = true

  within : (before : Token → Bool) (u : Token) → never u ≡ true → before u ≡ true
  within before u e = absurd cc

  pub turn_move : (q : Reading Definitions) (u : Token) → ViableMove always r (λ s. turn views s q u)
  turn_move q u = go (outer_opening (seen (views.sight q.defined) u)) refl
    where
      other : (x : Opening) → outer_opening (seen (views.sight q.defined) u) ≡ x → ViableMove always r (λ s. and_go (outer_by (views.sight q.defined) views.holds s q.program (line (views.sight q.defined) u) x) (λ p. pure (read q.defined p)))
      other x e = move_then {before = always} (outer_move (views.sight q.defined) views.holds (offers q.defined) r some q.program (line (views.sight q.defined) u) u x e) (λ p. pure_follows (λ u e. e))

      go : (x : Opening) → outer_opening (seen (views.sight q.defined) u) ≡ x → ViableMove always r (λ s. turn_by views s q u x)
      go o.Definition e = go_move pure_viable
      go x e = other x e

  first_viable : (p : Tall Program) → Viable never r (λ s. first_step views s p)
  first_viable p = follows_viable {before = never} (option_follows (λ u e. e) (λ s u e. absurd (differs e)) (λ u. go (line (views.sight views.none) u) (outer_opening (seen (views.sight views.none) u))))
    where
      differs : false ≡ true → ⊥
      differs e = cc

      go : (l : ℕ) (x : Opening) → ViableMove never r (λ s. first_step_by views s p l x)
      go l o.Int = go_move (ints_step_viable (views.sight views.none) views.holds (offers views.none) r some here l p)
      go l _ = stop_move

  step_viable : (end : ℕ) → Viable never r (λ s. program_step views s end)
  step_viable end =
      bind_viable (first_viable (empty_program end)) (λ p. bind_follows {before = never} (loop_follows {inner = always} (read views.none p) (λ u e. e) (within always) (λ s a u e. absurd (differs e)) turn_move) (λ q. pure_follows (λ u e. e)))
    where
      differs : false ≡ true → ⊥
      differs e = cc

  pub program_viable : (end : ℕ) → Viable never r (λ s. program views s end)
  program_viable end = same_viable {p = λ s. program_step views s end} (λ s ts. one_ahead views s end ts) (step_viable end)
