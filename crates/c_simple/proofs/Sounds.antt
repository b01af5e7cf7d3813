-- What the parser reads is what the grammar spells.
use Rattle.std.proofs.Common.{◌≡◌, ℕ, zero, suc, Bool, true, false, cond, List, [], ◌∷◌, ◌++◌, Option, Some, None, refl, sym, ap, subst, ◌∙◌}
use Rattle.c_lexer.specs.declared.token.Sign.{Sign}
use Rattle.c_lexer.specs.declared.token.Sign.TheVariants as s
use Rattle.c_tree.specs.declared.expr.Op.{Op}
use Rattle.c_tree.specs.declared.program.Kind.{Kind}
use Rattle.c_tree.specs.declared.program.Kind.TheVariants as kind
use Rattle.c_tree.specs.Expressions.{Place}
use Rattle.c_tree.specs.Lined as lined
use Rattle.c_tree.specs.Lined.{Stmt}
use Rattle.c_grammar.specs.declared.words.FixedWord.TheVariants as w
use Rattle.c_grammar.specs.Items.{What, Item, at, sign, fixed, callee, name_of}
use Rattle.c_grammar.specs.Levels.{Tall, tall, alone, followed, together}
use Rattle.c_grammar.specs.Commas.{Commas, one}
use Rattle.c_grammar.specs.Expressions.{SpellsPlace, SpellsAddress, SpellsCall}
use Rattle.c_grammar.specs.Simple as g
use Rattle.c_grammar.specs.Simple.{SpellsNumber, SpellsStep, SpellsDeclarator, SpellsSimple}
use Rattle.parse_laws.specs.Parser.{Parser, Move, Stop, Deep}
use Rattle.parse_laws.proofs.Sound.{Sound, SoundMove, stop_sound, deep_sound, go_sound, pure_sound, refuse_sound, sound_map, bind_sound, and_go_sound, commit_sound, token_sound, when_sound, loop_sound}
use Rattle.c_expressions.specs.Parsers.{Sight, seen, is, goes_on, go_named, fits, fitting}
use Rattle.c_expressions.proofs.Sounds.{items, close_sound, fitting_sound, deeper_sound, expression_sound, place_behind_sound, place_sound, address_sound}
use Rattle.c_expressions.proofs.ListSounds.{expressions_sound}
use Rattle.c_expressions.proofs.CallSounds.{arguments_sound, argument_sound}
use Rattle.c_simple.specs.declared.token.Way.{Way}
use Rattle.c_simple.specs.declared.token.Way.TheVariants as way
use Rattle.c_simple.specs.declared.token.Routine.{Routine}
use Rattle.c_simple.specs.declared.token.Routine.TheVariants as routine
use Rattle.c_simple.specs.Words.{way_of, counter, routine_of, number_of, text_of}
use Rattle.c_simple.specs.Parsers.{line, go_with, ended, Source, value, value_first, call_arguments, behind_callee, value_or_call, assigned_by, assigned, stepped_by, stepped, count_first, declared, declarator, one_more, comma_by, declarators, return_by, null_closed, addressed, initialised, joined, acting, wait, take_by, first_take, takes_end, takes, controlled_wait, monitor, numbered, scan, print_by, print_behind, print, printed, create_argument, create_function, create, library, call_by, called_by, simple_named, step_named, counted_by, begun_by, step_begun, other_begun, simple_begun, step_by, simple_by}
use Rattle.c_simple.proofs.Spelled as spelled
use Rattle.c_simple.proofs.Spelled.{SpellsSource, Takes, word_of}

module _ {Token : Type 0} (v : Sight Token) where
  module _ {A : Type 0} {R : List Token → List Token → A → Type 0} where
    with_sound : {B : Type 0} {p : B → Parser Token A} (o : Option B) → ((x : B) → o ≡ Some x → Sound (p x) R) → SoundMove R (go_with p o)
    with_sound None h = stop_sound
    with_sound (Some x) h = go_sound (h x refl)

    by_name_sound : {p : List ℕ → Parser Token A} (o : Option (List ℕ)) → ((n : List ℕ) → o ≡ Some n → Sound (p n) R) → SoundMove R (go_named p o)
    by_name_sound None h = stop_sound
    by_name_sound (Some n) h = go_sound (h n refl)

  -- the sign behind a statement
  ended_sound : (closer : Sign) (r : ℕ) (R : List Token → List Item → Tall (List Stmt) → Type 0) (x : Tall (List Stmt))
      → Sound (ended v closer r x) (λ mid rest y. (ts : List Token) → R ts (items v mid) x → (l : ℕ) × R ts (sign l closer ∷ items v rest) y)
  ended_sound closer r R x = close_sound v closer (fits (suc r) x.levels) (λ u q. pure_sound (λ rest ts d. spelled.closed_by closer (λ z. R ts z x) (v.item u) (items v rest) q d))

  -- ---- values

  abbrev pub V : List Token → List Token → Source → Type 0
  V ts rest x = SpellsSource (items v ts) (items v rest) x

  value_sound : (r : ℕ) → Sound (value v r) V
  value_sound r = bind_sound (expression_sound v r) (λ e. pure_sound (λ rest ts y. y))

  value_first_sound : (r : ℕ) (u : Token) (f : List ℕ) → callee (seen v u) ≡ Some f → Sound (value_first v r u f) (λ mid rest x. V (u ∷ mid) rest x)
  value_first_sound zero u f d = commit_sound (λ t. go t (goes_on v t)) (pure_sound (λ rest. spelled.name_alone_spelled (v.item u) (items v rest) f d))
    where
      go : (t : Token) (b : Bool) → SoundMove {Token = Token} {A = Source} (λ mid rest x. V (u ∷ t ∷ mid) rest x) (cond b Deep Stop)
      go t true = deep_sound
      go t false = stop_sound
  value_first_sound (suc r) u f d = record { spelled = λ ts x rest e. (value_sound (suc r)).spelled (u ∷ ts) x rest e }

  call_arguments_sound : (r : ℕ) (u t : Token) (f : List ℕ) → callee (seen v u) ≡ Some f → is v s.LeftParenthesis t ≡ true
      → Sound (call_arguments v r f) (λ mid rest c. SpellsCall (items v (u ∷ t ∷ mid)) (items v rest) c)
  call_arguments_sound r u t f d q = bind_sound (arguments_sound v r u t f d q) (λ args. pure_sound (λ rest ts y. y))

  behind_callee_sound : (r : ℕ) (u : Token) (f : List ℕ) → callee (seen v u) ≡ Some f → Sound (behind_callee v r u f) (λ mid rest x. V (u ∷ mid) rest x)
  unfolding behind_callee
  behind_callee_sound r u f d =
      commit_sound (λ t. when_sound (is v s.LeftParenthesis t) (λ q. bind_sound (call_arguments_sound r u t f d q) (λ c. pure_sound (λ rest ts y. y)))) (value_first_sound r u f d)

  value_or_call_sound : (r : ℕ) → Sound (value_or_call v r) V
  unfolding value_or_call
  value_or_call_sound r = commit_sound (λ u. by_name_sound (callee (seen v u)) (λ f d. behind_callee_sound r u f d)) (value_sound r)

  -- ---- assignments

  module _ (k : Kind) (u : Token) where
    abbrev S : List Token → List Token → Tall (List Stmt) → Type 0
    S mid rest x = SpellsSimple k (items v (u ∷ mid)) (items v rest) x

    abbrev T : List Token → List Token → Tall (List Stmt) → Type 0
    T mid rest x = SpellsStep (items v (u ∷ mid)) (items v rest) x

    -- behind the place p that begins with u
    abbrev Placed : (List Token → List Token → Tall (List Stmt) → Type 0) → Tall Place → List Token → List Token → Tall (List Stmt) → Type 0
    Placed R p mid rest x = (ts : List Token) → SpellsPlace (items v (u ∷ ts)) (items v mid) p → R ts rest x

    change_sound : (r : ℕ) (p : Tall Place) (t : Token) (o : Op) → way_of (seen v t) ≡ way.Change o → SoundMove (λ mid rest x. Placed T p (t ∷ mid) rest x) (stepped_by v r (line v u) p (way.Change o))
    change_sound r p t o d = deeper_sound v r (λ m e. bind_sound (expression_sound v r) (λ a. pure_sound (λ rest mid y ts z. spelled.change_spelled (v.item u) (v.item t) (items v ts) (items v mid) (items v rest) p a o d z y)))

    stepped_by_sound : (r : ℕ) (p : Tall Place) (t : Token) (a : Way) → way_of (seen v t) ≡ a → SoundMove (λ mid rest x. Placed T p (t ∷ mid) rest x) (stepped_by v r (line v u) p a)
    stepped_by_sound r p t way.Set d = deeper_sound v r (λ m e. bind_sound (expression_sound v r) (λ a. pure_sound (λ rest mid y ts z. spelled.assign_spelled (v.item u) (v.item t) (items v ts) (items v mid) (items v rest) p a d z y)))
    stepped_by_sound r p t (way.Change o) d = change_sound r p t o d
    stepped_by_sound r p t (way.Count o) d = go_sound (pure_sound (λ rest ts z. spelled.count_after_spelled (v.item u) (v.item t) (items v ts) (items v rest) p o d z))
    stepped_by_sound r p t way.Other d = stop_sound

    stepped_sound : (r : ℕ) (p : Tall Place) → Sound (stepped v r (line v u) p) (λ mid rest x. Placed T p mid rest x)
    stepped_sound r p = commit_sound (λ t. stepped_by_sound r p t (way_of (seen v t)) refl) refuse_sound

    -- a step is a simple statement
    as_simple : {m : Move Token (Tall (List Stmt))} {Q : List Token → List Token → Tall (List Stmt) → Type 0} {W : List Token → List Token → Tall (List Stmt) → Type 0}
        → ((ts rest : List Token) (x : Tall (List Stmt)) → Q ts rest x → W ts rest x) → SoundMove Q m → SoundMove W m
    as_simple f x = record { taken = λ p e. sound_map f (x.taken p e) }

    assigned_by_sound : (r : ℕ) (p : Tall Place) (t : Token) (a : Way) → way_of (seen v t) ≡ a → SoundMove (λ mid rest x. Placed S p (t ∷ mid) rest x) (assigned_by v r (line v u) p a)
    assigned_by_sound r p t way.Set d = go_sound (bind_sound (value_or_call_sound r) (λ a. pure_sound (λ rest mid y ts z. spelled.set_spelled k (v.item u) (v.item t) (items v ts) (items v mid) (items v rest) p a d z y)))
    assigned_by_sound r p t (way.Change o) d = as_simple (λ mid rest x h ts z. g.step (h ts z)) (change_sound r p t o d)
    assigned_by_sound r p t (way.Count o) d = go_sound (pure_sound (λ rest ts z. g.step (spelled.count_after_spelled (v.item u) (v.item t) (items v ts) (items v rest) p o d z)))
    assigned_by_sound r p t way.Other d = stop_sound

    assigned_sound : (r : ℕ) (p : Tall Place) → Sound (assigned v r (line v u) p) (λ mid rest x. Placed S p mid rest x)
    assigned_sound r p = commit_sound (λ t. assigned_by_sound r p t (way_of (seen v t)) refl) refuse_sound

    counted_sound : (r : ℕ) → SoundMove T (counted_by v r u)
    unfolding count_first
    counted_sound r = with_sound (counter (seen v u)) (λ o d. bind_sound (place_sound v r) (λ p. pure_sound (λ rest ts y. spelled.count_before_spelled (v.item u) (items v ts) (items v rest) p o d y)))

  -- ---- declarations

  abbrev D : List Token → List Token → Tall (List Stmt) → Type 0
  D ts rest x = SpellsDeclarator (items v ts) (items v rest) x

  declared_sound : (r : ℕ) (u : Token) (n : List ℕ) → name_of (seen v u) ≡ Some n → Sound (declared v r (line v u) n) (λ mid rest x. D (u ∷ mid) rest x)
  unfolding declared
  declared_sound r u n d =
      commit_sound (λ t. when_sound (is v s.Assign t) (λ q. bind_sound (value_or_call_sound r) (λ x. pure_sound (λ rest ts y. spelled.declared_spelled (v.item u) (v.item t) (items v ts) (items v rest) n x d q y))))
      (pure_sound (λ rest. spelled.bare_spelled (v.item u) (items v rest) n d))

  declarator_sound : (r : ℕ) → Sound (declarator v r) D
  unfolding declarator
  declarator_sound r = commit_sound (λ u. by_name_sound (name_of (seen v u)) (λ n d. declared_sound r u n d)) refuse_sound

  -- declarators, with their statements together
  abbrev L : List Token → List Token → Tall (List Stmt) → Type 0
  L ts rest a = (all : List (Tall (List Stmt))) × Commas SpellsDeclarator (items v ts) (items v rest) all × (together all ≡ a)

  turn_sound : (r : ℕ) (a : Tall (List Stmt)) (u : Token) → SoundMove (λ mid rest b. (ts : List Token) → L ts (u ∷ mid) a → L ts rest b) (comma_by v r a u)
  turn_sound r a u = go (is v s.Comma u) refl
    where
      go : (b : Bool) → is v s.Comma u ≡ b → SoundMove (λ mid rest b. (ts : List Token) → L ts (u ∷ mid) a → L ts rest b) (cond b (fitting (fits (suc r) a.levels) (one_more v r a)) Stop)
      go false q = stop_sound
      go true q = fitting_sound v (fits (suc r) a.levels) (bind_sound (declarator_sound r) (λ x. pure_sound (λ rest mid y ts z.
          (z.0 ++ x ∷ [], spelled.comma_spelled (v.item u) (items v ts) (items v mid) (items v rest) z.0 x q z.1 y, spelled.together_more z.0 x ∙ ap (λ (b : Tall (List Stmt)). followed b x) z.2))))

  declarators_sound : (r : ℕ) → Sound (declarators v r) L
  unfolding declarators
  declarators_sound r = bind_sound (declarator_sound r) (λ x. sound_map (λ mid rest b f ts y. f ts (x ∷ [], one y, spelled.together_one x)) (loop_sound {R = L} (turn_sound r) x))

  -- ---- results

  return_sound : (r : ℕ) (u : Token) (k : Kind) → seen v u ≡ What.Fixed w.Return → SoundMove (S k u) (return_by v r (line v u) k)
  return_sound r u kind.Main d = deeper_sound v r (λ m e. bind_sound (expression_sound v r) (λ a. pure_sound (λ rest ts y. spelled.return_spelled kind.Main (v.item u) (items v ts) (items v rest) (tall (Some a.tree) a.levels) d (g.of_main y))))
  return_sound r u kind.Int d = deeper_sound v r (λ m e. bind_sound (expression_sound v r) (λ a. pure_sound (λ rest ts y. spelled.return_spelled kind.Int (v.item u) (items v ts) (items v rest) (tall (Some a.tree) a.levels) d (g.of_int y))))
  return_sound r u kind.Void d = go_sound (pure_sound (λ rest. spelled.return_spelled kind.Void (v.item u) (items v rest) (items v rest) (tall None 0) d g.of_void))
  return_sound r u kind.Thread d =
      go_sound (token_sound (λ t q. pure_sound (λ rest. spelled.return_spelled kind.Thread (v.item u) (v.item t ∷ items v rest) (items v rest) (tall None 0) d (spelled.no_value_spelled (v.item t) (items v rest) q))))

  -- ---- calls of the library

  abbrev Addressed : List Token → List Token → Tall Place → Type 0
  Addressed ts rest p = (n : ℕ) × SpellsAddress (items v ts) (sign n s.RightParenthesis ∷ items v rest) p

  addressed_sound : (r : ℕ) → Sound (addressed v r) Addressed
  unfolding addressed
  addressed_sound r = bind_sound (address_sound v r) (λ p. token_sound (λ u q. pure_sound (λ rest ts y. spelled.closed_by s.RightParenthesis (λ z. SpellsAddress (items v ts) z p) (v.item u) (items v rest) q y)))

  -- a place that `, NULL )` follows
  abbrev Ready : (List Item → List Item → Tall Place → Type 0) → List Token → List Token → Tall Place → Type 0
  Ready R ts rest p = (n i j : ℕ) × R (items v ts) (sign n s.Comma ∷ fixed i w.Null ∷ sign j s.RightParenthesis ∷ items v rest) p

  null_sound : (R : List Item → List Item → Tall Place → Type 0) (p : Tall Place) → Sound (null_closed v p) (λ mid rest q. (ts : List Token) → R (items v ts) (items v mid) p → Ready R ts rest q)
  unfolding null_closed
  null_sound R p =
      token_sound (λ t1 q1. token_sound (λ t2 q2. token_sound (λ t3 q3. pure_sound (λ rest ts y. spelled.null_spelled (λ z. R (items v ts) z p) (v.item t1) (v.item t2) (v.item t3) (items v rest) q1 q2 q3 y))))

  initialised_sound : (r : ℕ) → Sound (initialised v r) (Ready SpellsAddress)
  unfolding initialised
  initialised_sound r = bind_sound (address_sound v r) (null_sound SpellsAddress)

  joined_sound : (r : ℕ) → Sound (joined v r) (Ready SpellsPlace)
  unfolding joined
  joined_sound r = bind_sound (place_sound v r) (null_sound SpellsPlace)

  module _ (k : Kind) (l : ℕ) where
    -- behind a word of the line l and the parenthesis
    abbrev Behind : Routine → List Token → List Token → Tall (List Stmt) → Type 0
    Behind x ts rest y = (m : ℕ) → SpellsSimple k (fixed l (word_of x) ∷ sign m s.LeftParenthesis ∷ items v ts) (items v rest) y

    acting_sound : (x : Routine) (act : Place → Stmt) {p : Parser Token (Tall Place)} {R : List Token → List Token → Tall Place → Type 0} → Sound p R
        → ((ts rest : List Token) (a : Tall Place) → R ts rest a → Behind x ts rest (alone (act a.tree) a.levels)) → Sound (acting act p) (Behind x)
    acting_sound x act y h = bind_sound y (λ a. pure_sound (λ rest ts z. h ts rest a z))

    numbered_sound : (x : Routine) (act : ℕ → Stmt)
        → ((n i m : ℕ) (rest : List Item) (a : ℕ) → SpellsSimple k (fixed l (word_of x) ∷ sign m s.LeftParenthesis ∷ at n (What.Number a) ∷ sign i s.RightParenthesis ∷ rest) rest (alone (act a) 0))
        → Sound (numbered v act) (Behind x)
    unfolding monitor
    numbered_sound x act h =
        bind_sound {R = λ ts rest a. (t1 t2 : Token) × (ts ≡ t1 ∷ t2 ∷ rest) × (seen v t1 ≡ What.Number a) × (is v s.RightParenthesis t2 ≡ true)}
        (commit_sound (λ t1. with_sound (number_of (seen v t1)) (λ a d. token_sound (λ t2 q. pure_sound (λ rest. (t1, t2, refl, spelled.number_is (seen v t1) a d, q))))) refuse_sound)
        (λ a. pure_sound (λ rest ts z m. subst (λ (w : List Token). SpellsSimple k (fixed l (word_of x) ∷ sign m s.LeftParenthesis ∷ items v w) (items v rest) (alone (act a) 0)) (sym z.2)
        (spelled.number_spelled (λ w. SpellsSimple k (fixed l (word_of x) ∷ sign m s.LeftParenthesis ∷ w) (items v rest) (alone (act a) 0)) (v.item z.0) (v.item z.1) (items v rest) a z.3 z.4 (λ n i. h n i m (items v rest) a))))

    -- numbers with commas between them, and one behind them
    abbrev Taken : List Token → List Token → List ℕ → Type 0
    Taken ts rest all = (n : ℕ) × Commas SpellsNumber (items v ts) (sign n s.Comma ∷ items v rest) all

    first_take_sound : Sound (first_take v) Taken
    unfolding first_take
    first_take_sound =
        commit_sound (λ t1. with_sound (number_of (seen v t1)) (λ a d. token_sound (λ t2 q. pure_sound (λ rest. spelled.first_take_spelled (v.item t1) (v.item t2) (items v rest) a (spelled.number_is (seen v t1) a d) q)))) refuse_sound

    take_sound : (all : List ℕ) (t1 : Token) → SoundMove (λ mid rest more. (ts : List Token) → Taken ts (t1 ∷ mid) all → Taken ts rest more) (take_by v all t1)
    take_sound all t1 =
        with_sound (number_of (seen v t1)) (λ a d. token_sound (λ t2 q. pure_sound (λ rest ts y. spelled.take_spelled (v.item t1) (v.item t2) (items v ts) (items v rest) all a (spelled.number_is (seen v t1) a d) q y)))

    takes_sound : Sound (takes v) (λ ts rest all. Takes (items v ts) (items v rest) all)
    unfolding takes takes_end
    takes_sound =
        bind_sound (bind_sound first_take_sound (loop_sound {R = Taken} take_sound))
        (λ all. token_sound (λ t1 q1. token_sound (λ t2 q2. token_sound (λ t3 q3. pure_sound (λ rest ts y. spelled.takes_spelled (v.item t1) (v.item t2) (v.item t3) (items v ts) (items v rest) all q1 q2 q3 y)))))

    print_by_sound : (r : ℕ) (t1 t2 : Token) (f : List ℕ) (a : What) → seen v t1 ≡ What.Text f → seen v t2 ≡ a → SoundMove (λ mid rest y. Behind routine.Print (t1 ∷ t2 ∷ mid) rest y) (print_by v r l f a)
    print_by_sound r t1 t2 f (What.Sign s.RightParenthesis) d1 d2 = go_sound (pure_sound (λ rest m. spelled.print_spelled k l m (v.item t1) (v.item t2) (items v rest) f d1 d2))
    print_by_sound r t1 t2 f (What.Sign s.Comma) d1 d2 =
        deeper_sound v r (λ n e. bind_sound
        (bind_sound {S = λ ts rest args. (m : ℕ) → SpellsSimple k (fixed l w.Print ∷ sign m s.LeftParenthesis ∷ v.item t1 ∷ v.item t2 ∷ items v ts) (items v rest) (printed l f args)} (expressions_sound v r)
        (λ all. close_sound v s.RightParenthesis (fits r all.levels) (λ t3 q. pure_sound (λ rest ts z m. spelled.print_with_spelled k l m (v.item t1) (v.item t2) (v.item t3) (items v ts) (items v rest) f z.0 all d1 d2 q z.1 z.2))))
        (λ args. pure_sound (λ rest ts z. z)))
    print_by_sound r t1 t2 f _ d1 d2 = stop_sound

    print_sound : (r : ℕ) → Sound (print v r l) (Behind routine.Print)
    unfolding print print_behind
    print_sound r = commit_sound (λ t1. with_sound (text_of (seen v t1)) (λ f d. commit_sound (λ t2. print_by_sound r t1 t2 f (seen v t2) (spelled.text_is (seen v t1) f d) refl) refuse_sound)) refuse_sound

    create_sound : (r : ℕ) → Sound (create v r l) (Behind routine.Create)
    unfolding create create_function create_argument
    create_sound r =
        bind_sound (address_sound v r) (λ p. token_sound (λ t1 q1. token_sound (λ t2 q2. token_sound (λ t3 q3. commit_sound (λ t4. by_name_sound (name_of (seen v t4)) (λ f d. token_sound (λ t5 q5.
        bind_sound (argument_sound v r) (λ e. close_sound v s.RightParenthesis (fits r e.levels) (λ t6 q6. pure_sound (λ rest mid y ts z m.
        spelled.create_spelled k l m (v.item t1) (v.item t2) (v.item t3) (v.item t4) (v.item t5) (v.item t6) (items v ts) (items v mid) (items v rest) p f e q1 q2 q3 d q5 q6 z y)))))) refuse_sound))))

    library_sound : (r : ℕ) (x : Routine) → Sound (library v r l x) (Behind x)
    unfolding wait controlled_wait scan
    library_sound r routine.Print = print_sound r
    library_sound r routine.Scan =
        token_sound (λ t1 q1. token_sound (λ t2 q2. bind_sound (addressed_sound r) (λ p. pure_sound (λ rest ts z m. spelled.scan_spelled k l m (v.item t1) (v.item t2) (items v ts) (items v rest) p q1 q2 z))))
    library_sound r routine.Create = create_sound r
    library_sound r routine.Join = acting_sound routine.Join (lined.Join l) (joined_sound r) (λ ts rest a z m. g.join z.3)
    library_sound r routine.InitMutex = acting_sound routine.InitMutex (lined.InitMutex l) (initialised_sound r) (λ ts rest a z m. g.init_mutex z.3)
    library_sound r routine.InitCondition = acting_sound routine.InitCondition (lined.InitCond l) (initialised_sound r) (λ ts rest a z m. g.init_condition z.3)
    library_sound r routine.Lock = acting_sound routine.Lock (lined.Lock l) (addressed_sound r) (λ ts rest a z m. g.lock z.1)
    library_sound r routine.Unlock = acting_sound routine.Unlock (lined.Unlock l) (addressed_sound r) (λ ts rest a z m. g.unlock z.1)
    library_sound r routine.Wait =
        bind_sound (address_sound v r) (λ p. token_sound (λ t1 q. bind_sound (addressed_sound r) (λ b. pure_sound (λ rest mid y ts z m. spelled.wait_spelled k l m (v.item t1) (items v ts) (items v mid) (items v rest) p b q z y))))
    library_sound r routine.Signal = acting_sound routine.Signal (lined.Signal l) (addressed_sound r) (λ ts rest a z m. g.signal z.1)
    library_sound r routine.Broadcast = acting_sound routine.Broadcast (lined.Broadcast l) (addressed_sound r) (λ ts rest a z m. g.broadcast z.1)
    library_sound r routine.Take = numbered_sound routine.Take (lined.Take l) (λ n i m rest a. g.take)
    library_sound r routine.Give = numbered_sound routine.Give (lined.Give l) (λ n i m rest a. g.give)
    library_sound r routine.ControlledWait =
        bind_sound (address_sound v r) (λ p. token_sound (λ t1 q1. bind_sound (address_sound v r) (λ q. token_sound (λ t2 q2. bind_sound takes_sound (λ all. pure_sound (λ rest next z mid y ts x m.
        spelled.controlled_wait_spelled k l m (v.item t1) (v.item t2) (items v ts) (items v mid) (items v next) (items v rest) p q all q1 q2 x y z))))))

  -- ---- statements

  call_by_sound : (k : Kind) (r : ℕ) (u t : Token) (f : Option (List ℕ)) (x : Option Routine) → callee (seen v u) ≡ f → routine_of v.null (seen v u) ≡ x → is v s.LeftParenthesis t ≡ true
      → SoundMove (λ mid rest y. S k u (t ∷ mid) rest y) (call_by v r (line v u) f x)
  call_by_sound k r u t (Some f) x d e q = go_sound (bind_sound (call_arguments_sound r u t f d q) (λ c. pure_sound (λ rest ts z. spelled.call_spelled k (v.item u) (v.item t ∷ items v ts) (items v rest) c z)))
  call_by_sound k r u t None x d e q =
      with_sound x (λ y h. sound_map (λ ts rest z b. spelled.called_spelled k (v.item u) (v.item t) (items v ts) (items v rest) y z (spelled.routine_word v.null (seen v u) y (e ∙ h)) q b) (library_sound k (line v u) r y))

  simple_named_sound : (k : Kind) (r : ℕ) (u : Token) (n : List ℕ) → name_of (seen v u) ≡ Some n → Sound (simple_named v r u n) (S k u)
  unfolding simple_named
  simple_named_sound k r u n d = commit_sound (λ t. go t (is v s.LeftParenthesis t) refl) (bind_sound (place_behind_sound v r u n d) (λ p. assigned_sound k u r p))
    where
      go : (t : Token) (b : Bool) → is v s.LeftParenthesis t ≡ b → SoundMove (λ mid rest y. S k u (t ∷ mid) rest y) (cond b (called_by v r u) Stop)
      go t true q = call_by_sound k r u t (callee (seen v u)) (routine_of v.null (seen v u)) refl refl q
      go t false q = stop_sound

  step_named_sound : (k : Kind) (r : ℕ) (u : Token) (n : List ℕ) → name_of (seen v u) ≡ Some n → Sound (step_named v r u n) (T k u)
  unfolding step_named
  step_named_sound k r u n d = bind_sound (place_behind_sound v r u n d) (λ p. stepped_sound k u r p)

  begun_sound : {p : List ℕ → Parser Token (Tall (List Stmt))} {other : Move Token (Tall (List Stmt))} {R : List Token → List Token → Tall (List Stmt) → Type 0} (o : Option (List ℕ))
      → ((n : List ℕ) → o ≡ Some n → Sound (p n) R) → SoundMove R other → SoundMove R (begun_by p other o)
  begun_sound (Some n) x y = go_sound (x n refl)
  begun_sound None x y = y

  step_begun_sound : (k : Kind) (r : ℕ) (u : Token) → SoundMove (T k u) (step_begun v r u)
  step_begun_sound k r u = begun_sound (name_of (seen v u)) (λ n d. step_named_sound k r u n d) (counted_sound k u r)

  other_begun_sound : (k : Kind) (r : ℕ) (u : Token) → SoundMove (S k u) (other_begun v r u)
  other_begun_sound k r u = begun_sound (name_of (seen v u)) (λ n d. simple_named_sound k r u n d) (as_simple k u (λ ts rest x h. g.step h) (counted_sound k u r))

  simple_begun_sound : (k : Kind) (r : ℕ) (u : Token) (a : What) → seen v u ≡ a → SoundMove (S k u) (simple_begun v k r u a)
  simple_begun_sound k r u (What.Fixed w.Int) d = go_sound (sound_map (λ ts rest x z. spelled.declare_spelled k (v.item u) (items v ts) (items v rest) z.0 x d z.1 z.2) (declarators_sound r))
  simple_begun_sound k r u (What.Fixed w.Return) d = return_sound r u k d
  simple_begun_sound k r u _ d = other_begun_sound k r u

  -- every simple statement that is read is spelled, with the `;` behind it
  pub simple_sound : (k : Kind) (r : ℕ) (u : Token) → SoundMove (λ mid rest x. (l : ℕ) × SpellsSimple k (items v (u ∷ mid)) (sign l s.Semicolon ∷ items v rest) x) (simple_by v k r u)
  simple_sound k r u = and_go_sound (simple_begun_sound k r u (seen v u) refl) (ended_sound s.Semicolon r (λ ts z x. SpellsSimple k (items v (u ∷ ts)) z x))

  -- and every step, with the sign behind it
  pub step_sound : (closer : Sign) (r : ℕ) (u : Token) → SoundMove (λ mid rest x. (l : ℕ) × SpellsStep (items v (u ∷ mid)) (sign l closer ∷ items v rest) x) (step_by v closer r u)
  step_sound closer r u = and_go_sound (step_begun_sound kind.Main r u) (ended_sound closer r (λ ts z x. SpellsStep (items v (u ∷ ts)) z x))
