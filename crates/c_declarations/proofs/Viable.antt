-- What stands outside functions, up to their bodies, can be completed wherever it was begun.
use Rattle.std.proofs.Common.{◌≡◌, ℕ, pos, neg_ℤ, Bool, true, false, cond, List, [], ◌∷◌, Option, Some, None, refl}
use Rattle.c_lexer.specs.declared.token.Sign.{Sign}
use Rattle.c_lexer.specs.declared.token.Sign.TheVariants as signs
use Rattle.c_tree.specs.declared.program.Kind.TheVariants as kind
use Rattle.c_grammar.specs.declared.words.FixedWord.{FixedWord}
use Rattle.c_grammar.specs.declared.words.FixedWord.TheVariants as w
use Rattle.c_grammar.specs.Items.{What, name_of, cell_name, function_name, spelling}
use Rattle.parse_laws.specs.Parser.{Parser, ◌>>=◌, pure, refuse, Move, Stop, Go, when, must, separated}
use Rattle.parse_laws.proofs.Viable.{Viable, Follows, ViableMove, Takes, stop_move, go_move, when_move, pure_local, pure_viable, pure_follows, bind_viable, bind_follows, commit_local, commit_takes, fallback_viable, choice_viable, option_follows, follows_viable, must_viable, must_follows, must_takes, then_takes, first_takes}
use Rattle.parse_laws.proofs.Loops.{many_follows}
use Rattle.c_expressions.specs.Words.{same_sign, is_sign}
use Rattle.c_expressions.specs.Parsers.{Sight, seen, is, go_named}
use Rattle.c_expressions.proofs.Words.{Words, SeenAs}
use Rattle.c_expressions.proofs.Closers.{is_itself}
use Rattle.c_declarations.specs.declared.tree.Sort.{Sort}
use Rattle.c_declarations.specs.declared.tree.Sort.TheVariants as sort
use Rattle.c_declarations.specs.declared.tree.Head.{Head}
use Rattle.c_declarations.specs.declared.tree.Begun.TheVariants as begun
use Rattle.c_declarations.specs.Words.{number_of, held}
use Rattle.c_declarations.specs.Parsers.{line, is_fixed, go_with, name, number, length_behind, alone, grown, more, commas, braced, ended, negative, value, values, array_end, array_behind, scalar_behind, cell_behind, cell, no_ints, with_declared, cells_behind, is_ready, is_initial, initial, counted, initials, ready_by, objects_end, objects_behind, ready_object, object_behind, object, objects, numbers, prototype_end, prototype, capacity_values, prototypes, capacities, parameter, no_parameters_by, no_parameters, some_parameters, parameters_by, parameters, main_head, int_head, void_head, start_parameter, start_head, thread_head, void_by, head_behind_void, by_head, by_cells, by_capacities, capacities_or_head, head_or_cells, behind_int_by, behind_int}
use Rattle.c_declarations.proofs.FoundLists.{word_self}
use Rattle.c_declarations.proofs.Found.{separates, no_sign_separates}

-- `;`, `)` and `}`
abbrev pub ends_list : What → Bool
ends_list (What.Sign signs.Semicolon) = true
ends_list (What.Sign signs.RightParenthesis) = true
ends_list (What.Sign signs.RightBrace) = true
ends_list other = false

list_separates : (a : What) → ends_list a ≡ true → separates a ≡ true
list_separates (What.Sign signs.Semicolon) e = refl
list_separates (What.Sign signs.RightParenthesis) e = refl
list_separates (What.Sign signs.RightBrace) e = refl
list_separates _ e = absurd cc

no_comma : (a : What) → ends_list a ≡ true → is_sign signs.Comma a ≡ false
unfolding same_sign
no_comma (What.Sign signs.Semicolon) e = refl
no_comma (What.Sign signs.RightParenthesis) e = refl
no_comma (What.Sign signs.RightBrace) e = refl
no_comma _ e = absurd cc

module _ {Token : Type 0} (v : Sight Token) where
  -- every token closes what ends in a token of its own
  abbrev pub any : Token → Bool
  any u = true

  -- the tokens that close an item of a list, and those that close the list
  abbrev pub item_ends : Token → Bool
  item_ends u = separates (seen v u)

  abbrev pub list_ends : Token → Bool
  list_ends u = ends_list (seen v u)

  abbrev pub is_as : FixedWord → What → Type 0
  is_as word a = a ≡ What.Fixed word

  pub word_at : (word : FixedWord) (u : Token) → seen v u ≡ What.Fixed word → is_fixed v word u ≡ true
  word_at word u e = rw e (word_self word)

  module _ {A : Type 0} {ends : Token → Bool} {r : ℕ} where
    with_move : {B : Type 0} {p : B → Parser Token A} (x : Option B) → ((b : B) → Viable ends r (λ s. p b)) → ViableMove ends r (λ s. go_with p x)
    with_move None h = stop_move
    with_move (Some b) h = go_move (h b)

    pub named_move : {p : List ℕ → Parser Token A} (x : Option (List ℕ)) → ((n : List ℕ) → Viable ends r (λ s. p n)) → ViableMove ends r (λ s. go_named p x)
    named_move None h = stop_move
    named_move (Some n) h = go_move (h n)

    if_move : {p : Parser Token A} {m : Move Token A} (b : Bool) → Viable ends r (λ s. p) → ViableMove ends r (λ s. m) → ViableMove ends r (λ s. cond b (Go p) m)
    if_move true x y = go_move x
    if_move false x y = y

  module _ (words : Words v) where
    -- ---- lists

    -- a sign that must come behind a part that it closes
    sign_follows : {A : Type 0} {before ends : Token → Bool} {r : ℕ} {p : Parser Token A} (x : Sign) → before (words.sign x) ≡ true → Viable ends r (λ s. p) → Follows before ends r (λ s. must (is v x) p)
    sign_follows x c y = must_follows (is v x) (words.sign x) (is_itself v words x) c y

    pub sign_viable : {A : Type 0} {ends : Token → Bool} {r : ℕ} {p : Parser Token A} (x : Sign) → Viable ends r (λ s. p) → Viable ends r (λ s. must (is v x) p)
    sign_viable x y = must_viable (is v x) (words.sign x) (is_itself v words x) y

    pub ended_viable : {A : Type 0} {before ends : Token → Bool} {r : ℕ} {p : Parser Token A} (x : Sign) → before (words.sign x) ≡ true → Viable before r (λ s. p) → Viable ends r (λ s. ended v x p)
    ended_viable x c y = bind_viable y (λ a. sign_follows x c pure_viable)

    list_sign : (x : Sign) → ends_list (What.Sign x) ≡ true → list_ends (words.sign x) ≡ true
    list_sign x e = rw (words.sign_is x) e

    braced_viable : {A : Type 0} {ends : Token → Bool} {r : ℕ} {p : Parser Token A} → Viable list_ends r (λ s. p) → Viable ends r (λ s. braced v p)
    braced_viable y = sign_viable signs.LeftBrace (ended_viable signs.RightBrace (list_sign signs.RightBrace refl) y)

    -- more of them, behind what the closers of an item close
    more_follows : {A B : Type 0} {r : ℕ} {item : Parser Token A} (add : B → A → B) (all : B) → Viable item_ends r (λ s. item) → Follows item_ends list_ends r (λ s. more v item add all)
    more_follows add all y =
        many_follows {inner = item_ends} add all (λ u e. list_separates (seen v u) e) (λ u e. list_separates (seen v u) e) (λ s u e. rw (no_comma (seen v u) e) refl) (λ u. when_move (is v signs.Comma u) (λ e. y))

    separated_viable : {A B : Type 0} {r : ℕ} {item : Parser Token A} (add : B → A → B) (one : A → B) → Viable item_ends r (λ s. item) → Viable list_ends r (λ s. separated (is v signs.Comma) item add one)
    separated_viable add one y = bind_viable y (λ x. more_follows add (one x) y)

    commas_viable : {A : Type 0} {r : ℕ} {item : Parser Token A} → Viable item_ends r (λ s. item) → Viable list_ends r (λ s. commas v item)
    commas_viable y = separated_viable grown alone y

    -- more of them, and the sign that ends the list
    ended_more : {A B : Type 0} {ends : Token → Bool} {r : ℕ} {item : Parser Token A} (add : B → A → B) (all : B) (x : Sign) → ends_list (What.Sign x) ≡ true → Viable item_ends r (λ s. item)
        → Follows item_ends ends r (λ s. ended v x (more v item add all))
    ended_more add all x c y = bind_follows (more_follows add all y) (λ all. sign_follows x (list_sign x c) pure_viable)

    -- ---- single tokens

    pub name_viable : {ends : Token → Bool} {r : ℕ} → Viable ends r (λ s. name v)
    unfolding name
    name_viable = choice_viable (λ u. named_move (name_of (seen v u)) (λ n. pure_viable)) words.name (λ s le. rw words.name_is refl) (pure_viable {a = words.letters})

    number_viable : {ends : Token → Bool} {r : ℕ} → Viable ends r (λ s. number v)
    unfolding number
    number_viable = choice_viable (λ u. with_move (number_of (seen v u)) (λ k. pure_viable)) words.number (λ s le. rw words.number_is refl) (pure_viable {a = words.value})

    length_viable : {ends : Token → Bool} {r : ℕ} → Viable ends r (λ s. length_behind v)
    unfolding length_behind
    length_viable = ended_viable {before = any} signs.RightBracket refl number_viable

    -- ---- values

    module _ (holds : ℕ → Bool) (value_holds : holds words.value ≡ true) where
      negative_viable : {ends : Token → Bool} {r : ℕ} → Viable ends r (λ s. negative v holds)
      unfolding negative
      negative_viable = choice_viable (λ u. with_move (held holds (seen v u)) (λ k. pure_viable)) words.number (λ s le. rw (words.number_is, value_holds) refl) (pure_viable {a = neg_ℤ (pos words.value)})

      pub value_viable : {ends : Token → Bool} {r : ℕ} → Viable ends r (λ s. value v holds)
      unfolding value
      value_viable =
          choice_viable (λ u. if_move (is v signs.Minus u) negative_viable (with_move (held holds (seen v u)) (λ k. pure_viable))) words.number (λ s le. rw (words.number_is, value_holds) refl) (pure_viable {a = pos words.value})

      values_viable : {r : ℕ} → Viable list_ends r (λ s. values v holds)
      unfolding values
      values_viable = commas_viable value_viable

      -- ---- ints

      module _ (l : ℕ) (n : List ℕ) where
        no_sign : (x : Sign) → separates (What.Sign x) ≡ false → (u : Token) → item_ends u ≡ true → is v x u ≡ false
        no_sign x d u e = no_sign_separates x d (seen v u) e

        array_end_follows : {r : ℕ} (len : ℕ) → Follows any item_ends r (λ s. array_end v holds l n len)
        unfolding array_end
        array_end_follows len = option_follows (λ u e. refl) (λ s u e. rw (no_sign signs.Assign refl u e) refl) (λ u. when_move (is v signs.Assign u) (λ e. bind_viable {before = any} (braced_viable values_viable) (λ all. pure_follows (λ u e. refl))))

        array_viable : {r : ℕ} → Viable item_ends r (λ s. array_behind v holds l n)
        unfolding array_behind
        array_viable = bind_viable length_viable (λ len. array_end_follows len)

        scalar_viable : {ends : Token → Bool} {r : ℕ} → Viable ends r (λ s. scalar_behind v holds l n)
        unfolding scalar_behind
        scalar_viable = bind_viable {before = any} value_viable (λ x. pure_follows (λ u e. refl))

        cell_behind_viable : {r : ℕ} → Viable item_ends r (λ s. cell_behind v holds l n)
        unfolding cell_behind
        cell_behind_viable =
            follows_viable {before = item_ends} (option_follows (λ u e. e) (λ s u e. rw (no_sign signs.Assign refl u e, no_sign signs.LeftBracket refl u e) refl)
            (λ u. if_move (is v signs.Assign u) scalar_viable (when_move (is v signs.LeftBracket u) (λ e. array_viable))))

      pub cell_viable : {r : ℕ} → Viable item_ends r (λ s. cell v holds)
      unfolding cell
      cell_viable = choice_viable (λ u. named_move (cell_name (seen v u)) (λ n. cell_behind_viable (line v u) n)) words.name (λ s le. rw words.name_is refl) (cell_behind_viable (line v words.name) words.letters)

      pub cells_viable : {ends : Token → Bool} {r : ℕ} (l : ℕ) (n : List ℕ) → Viable ends r (λ s. cells_behind v holds l n)
      unfolding cells_behind
      cells_viable l n = bind_viable (cell_behind_viable l n) (λ x. ended_more with_declared (with_declared no_ints x) signs.Semicolon refl cell_viable)

      pub cells_take : (l : ℕ) (n : List ℕ) (r : ℕ) → Takes (cells_behind v holds l n)
      unfolding cells_behind
      cells_take l n r =
          then_takes {ends = any} {r = r} (cell_behind_viable l n {r = r}).local (λ x. (ended_more {ends = any} {r = r} with_declared (with_declared no_ints x) signs.Semicolon refl cell_viable).local)
          (λ x. then_takes {ends = any} {r = r} (more_follows {r = r} with_declared (with_declared no_ints x) cell_viable).local (λ all. (sign_viable {ends = any} {r = r} signs.Semicolon pure_viable).local) (λ all. must_takes {ends = any} {r = r} (is v signs.Semicolon) pure_viable))

    -- ---- mutexes and conditions

    module _ (o : Sort) where
      ready_token : is_ready v o ≡ true → (u : Token) × (is_initial v o u ≡ true)
      ready_token = go o
        where
          go : (o : Sort) → is_ready v o ≡ true → (u : Token) × (is_initial v o u ≡ true)
          go sort.Mutex e = let x = words.ready_mutex e in (x.0, word_at w.MutexInitializer x.0 x.1)
          go sort.Condition e = let x = words.ready_condition e in (x.0, word_at w.ConditionInitializer x.0 x.1)

      initial_viable : {ends : Token → Bool} {r : ℕ} → is_ready v o ≡ true → Viable ends r (λ s. initial v o)
      unfolding initial
      initial_viable e = let x = ready_token e in must_viable (is_initial v o) x.0 x.1 pure_viable

      initials_viable : {r : ℕ} → is_ready v o ≡ true → Viable list_ends r (λ s. initials v o)
      unfolding initials
      initials_viable e = separated_viable counted (λ one. one) (initial_viable e)

      ready_move : {A : Type 0} {ends : Token → Bool} {r : ℕ} {p : Parser Token A} (u : Token) → (is_ready v o ≡ true → Viable ends r (λ s. p)) → ViableMove ends r (λ s. ready_by v o p u)
      ready_move {ends = ends} {r = r} {p = p} u h = go (is v signs.Assign u)
        where
          go : (b : Bool) → ViableMove ends r (λ s. cond b (when (is_ready v o) p) Stop)
          go true = when_move (is_ready v o) h
          go false = stop_move

      module _ (l : ℕ) (n : List ℕ) where
        no_mark : (x : Sign) → separates (What.Sign x) ≡ false → (u : Token) → item_ends u ≡ true → is v x u ≡ false
        no_mark x d u e = no_sign_separates x d (seen v u) e

        objects_end_follows : {r : ℕ} (len : ℕ) → Follows any item_ends r (λ s. objects_end v o l n len)
        unfolding objects_end
        objects_end_follows len =
            option_follows (λ u e. refl) (λ s u e. rw (no_mark signs.Assign refl u e) refl) (λ u. ready_move u (λ e. bind_viable {before = any} (braced_viable (initials_viable e)) (λ given. pure_follows (λ u e. refl))))

        objects_behind_viable : {r : ℕ} → Viable item_ends r (λ s. objects_behind v o l n)
        unfolding objects_behind
        objects_behind_viable = bind_viable length_viable (λ len. objects_end_follows len)

        ready_object_viable : {ends : Token → Bool} {r : ℕ} → is_ready v o ≡ true → Viable ends r (λ s. ready_object v o l n)
        unfolding ready_object
        ready_object_viable e = bind_viable {before = any} (initial_viable e) (λ given. pure_follows (λ u e. refl))

        object_behind_viable : {r : ℕ} → Viable item_ends r (λ s. object_behind v o l n)
        unfolding object_behind
        object_behind_viable =
            follows_viable {before = item_ends} (option_follows (λ u e. e) (λ s u e. rw (no_mark signs.LeftBracket refl u e, no_mark signs.Assign refl u e) refl)
            (λ u. if_move (is v signs.LeftBracket u) objects_behind_viable (ready_move u ready_object_viable)))

      object_viable : {r : ℕ} → Viable item_ends r (λ s. object v o)
      unfolding object
      object_viable = choice_viable (λ u. named_move (name_of (seen v u)) (λ n. object_behind_viable (line v u) n)) words.name (λ s le. rw words.name_is refl) (object_behind_viable (line v words.name) words.letters)

      pub objects_viable : {ends : Token → Bool} {r : ℕ} → Viable ends r (λ s. objects v o)
      unfolding objects
      objects_viable = ended_viable signs.Semicolon (list_sign signs.Semicolon refl) (commas_viable object_viable)

    -- ---- heads

    parameter_viable : {ends : Token → Bool} {r : ℕ} (u : Token) → seen v u ≡ What.Fixed w.Int → Viable ends r (λ s. parameter v)
    unfolding parameter
    parameter_viable u e = must_viable (is_fixed v w.Int) u (word_at w.Int u e) name_viable

    -- behind such a token
    some_parameters_viable : {ends : Token → Bool} {r : ℕ} (u : Token) → seen v u ≡ What.Fixed w.Int → Viable ends r (λ s. some_parameters v)
    unfolding some_parameters
    some_parameters_viable u e = bind_viable {before = item_ends} name_viable (λ n. ended_more grown (alone n) signs.RightParenthesis refl (parameter_viable u e))

    no_parameters_move : {ends : Token → Bool} {r : ℕ} (a : What) → ViableMove ends r (λ s. no_parameters_by v a)
    no_parameters_move (What.Fixed w.Void) = go_move (sign_viable signs.RightParenthesis pure_viable)
    no_parameters_move (What.Sign signs.RightParenthesis) = go_move pure_viable
    no_parameters_move _ = stop_move

    no_parameters_viable : {ends : Token → Bool} {r : ℕ} → Viable ends r (λ s. no_parameters v)
    unfolding no_parameters
    no_parameters_viable = choice_viable (λ u. no_parameters_move (seen v u)) (words.sign signs.RightParenthesis) (λ s le. rw (words.sign_is signs.RightParenthesis) refl) (pure_viable {a = []})

    parameters_move : {ends : Token → Bool} {r : ℕ} (u : Token) (a : What) → seen v u ≡ a → ViableMove ends r (λ s. parameters_by v a)
    parameters_move u (What.Fixed w.Int) e = go_move (some_parameters_viable u e)
    parameters_move u a e = no_parameters_move a

    pub parameters_viable : {ends : Token → Bool} {r : ℕ} → Viable ends r (λ s. parameters v)
    unfolding parameters
    parameters_viable = choice_viable (λ u. parameters_move u (seen v u) refl) (words.sign signs.RightParenthesis) (λ s le. rw (words.sign_is signs.RightParenthesis) refl) (pure_viable {a = []})

    pub parameters_take : (r : ℕ) → Takes (parameters v)
    unfolding parameters
    parameters_take r = commit_takes {ends = any} {r = r} (λ s. refuse) (λ u. parameters_move u (seen v u) refl) (λ ts a e. absurd cc)

    -- a part whose value is made into another
    pub made_viable : {A B : Type 0} {ends : Token → Bool} {r : ℕ} {p : Parser Token A} (f : A → B) → Viable any r (λ s. p) → Viable ends r (λ s. p >>= λ x. pure (f x))
    made_viable f y = bind_viable {before = any} y (λ x. pure_follows (λ u e. refl))

    main_viable : {ends : Token → Bool} {r : ℕ} (l : ℕ) → Viable ends r (λ s. main_head v l)
    unfolding main_head
    main_viable l = made_viable (λ all. record { name = spelling w.Main; kind = kind.Main; params = all; line = l }) no_parameters_viable

    int_viable : {ends : Token → Bool} {r : ℕ} (l : ℕ) (n : List ℕ) → Viable ends r (λ s. int_head v l n)
    unfolding int_head
    int_viable l n = made_viable (λ all. record { name = n; kind = kind.Int; params = all; line = l }) parameters_viable

    void_viable : {ends : Token → Bool} {r : ℕ} (l : ℕ) (n : List ℕ) → Viable ends r (λ s. void_head v l n)
    unfolding void_head
    void_viable l n = sign_viable signs.LeftParenthesis (made_viable (λ all. record { name = n; kind = kind.Void; params = all; line = l }) parameters_viable)

    module _ (void : SeenAs v (is_as w.Void)) where
      start_parameter_viable : {ends : Token → Bool} {r : ℕ} → Viable ends r (λ s. start_parameter v)
      unfolding start_parameter
      start_parameter_viable = must_viable (is_fixed v w.Void) void.0 (word_at w.Void void.0 void.1) (sign_viable signs.Star name_viable)

      start_viable : {ends : Token → Bool} {r : ℕ} (l : ℕ) (n : List ℕ) → Viable ends r (λ s. start_head v l n)
      unfolding start_head
      start_viable l n =
          sign_viable signs.LeftParenthesis (made_viable (λ x. record { name = n; kind = kind.Thread; params = x ∷ []; line = l }) (ended_viable {before = any} signs.RightParenthesis refl start_parameter_viable))

      thread_viable : {ends : Token → Bool} {r : ℕ} (l : ℕ) → Viable ends r (λ s. thread_head v l)
      unfolding thread_head
      thread_viable l = choice_viable (λ u. named_move (function_name (seen v u)) (λ n. start_viable l n)) words.name (λ s le. rw words.name_is refl) (start_viable l words.letters)

      behind_void_move : {ends : Token → Bool} {r : ℕ} (l : ℕ) (u : Token) → ViableMove ends r (λ s. void_by v l u)
      behind_void_move l u = if_move (is v signs.Star u) (thread_viable l) (named_move (function_name (seen v u)) (λ n. void_viable l n))

      -- behind the word `void`, which so has no definition
      pub behind_void_viable : {ends : Token → Bool} {r : ℕ} (l : ℕ) → Viable ends r (λ s. head_behind_void v l)
      unfolding head_behind_void
      behind_void_viable l = choice_viable (behind_void_move l) words.name (λ s le. rw words.name_is refl) (void_viable l words.letters)

      pub behind_void_take : (l r : ℕ) → Takes (head_behind_void v l)
      unfolding head_behind_void
      behind_void_take l r = commit_takes {ends = any} {r = r} (λ s. refuse) (behind_void_move l) (λ ts a e. absurd cc)

    -- ---- what `int` begins

    -- the words of the capacities, which have no definition where nothing stands before them
    abbrev pub CapacityWords : Type 0
    CapacityWords =
        SeenAs v (is_as w.Void) × SeenAs v (is_as w.Int) × SeenAs v (is_as w.Parameter) × SeenAs v (is_as w.Take) × SeenAs v (is_as w.Give)
        × SeenAs v (is_as w.ControlledWait) × SeenAs v (is_as w.Condition) × SeenAs v (is_as w.ConditionParameter) × SeenAs v (is_as w.Mutex) × SeenAs v (is_as w.MutexParameter)

    pub word_viable : {A : Type 0} {ends : Token → Bool} {r : ℕ} {p : Parser Token A} (word : FixedWord) → SeenAs v (is_as word) → Viable ends r (λ s. p) → Viable ends r (λ s. must (is_fixed v word) p)
    word_viable word x y = must_viable (is_fixed v word) x.0 (word_at word x.0 x.1) y

    module _ (here : CapacityWords) where
      prototype_viable : {ends : Token → Bool} {r : ℕ} (word : FixedWord) → SeenAs v (is_as word) → Viable ends r (λ s. prototype v word)
      unfolding prototype prototype_end
      prototype_viable word x =
          word_viable w.Void here.0 (word_viable word x (sign_viable signs.LeftParenthesis (word_viable w.Int here.1 (word_viable w.Parameter here.2 (sign_viable signs.RightParenthesis (sign_viable signs.Semicolon pure_viable))))))

      prototype_follows : {r : ℕ} (word : FixedWord) → SeenAs v (is_as word) → Follows any any r (λ s. prototype v word)
      unfolding prototype prototype_end
      prototype_follows word x =
          must_follows (is_fixed v w.Void) here.0.0 (word_at w.Void here.0.0 here.0.1) refl
          (word_viable word x (sign_viable signs.LeftParenthesis (word_viable w.Int here.1 (word_viable w.Parameter here.2 (sign_viable signs.RightParenthesis (sign_viable signs.Semicolon pure_viable))))))

      prototypes_follow : {r : ℕ} → Follows any any r (λ s. prototypes v)
      unfolding prototypes
      prototypes_follow = bind_follows (prototype_follows w.Take here.3) (λ x. prototype_follows w.Give here.4)

      values_follow : {r : ℕ} → Follows any any r (λ s. capacity_values v)
      unfolding capacity_values numbers
      values_follow =
          must_follows (is v signs.Assign) (words.sign signs.Assign) (is_itself v words signs.Assign) refl (ended_viable {before = any} signs.Semicolon refl (braced_viable (commas_viable number_viable)))

      capacities_viable : {r : ℕ} (l : ℕ) → Viable any r (λ s. capacities v l)
      unfolding capacities
      capacities_viable l = bind_viable length_viable (λ len. bind_follows values_follow (λ all. bind_follows prototypes_follow (λ x. pure_follows (λ u e. e))))

    module _ (holds : ℕ → Bool) (value_holds : holds words.value ≡ true) where
      by_head_viable : {ends : Token → Bool} {r : ℕ} {head : Parser Token Head} → Viable any r (λ s. head) → Viable ends r (λ s. by_head head)
      by_head_viable y = made_viable (λ h. begun.Head h) y

      by_cells_take : (m : ℕ) (n : List ℕ) (r : ℕ) → Takes (by_cells (cells_behind v holds m n))
      by_cells_take m n r = first_takes {before = any} {ends = any} {r = r} (cells_viable holds value_holds m n).local (λ all. pure_local) (cells_take holds value_holds m n r)

      head_or_cells_viable : {ends : Token → Bool} {r : ℕ} (m : ℕ) (n : List ℕ) {head : Parser Token Head} → Viable any r (λ s. head) → Viable ends r (λ s. head_or_cells v holds m n head)
      unfolding head_or_cells
      head_or_cells_viable {r = r} m n y =
          fallback_viable (λ u. when_move (is v signs.LeftParenthesis u) (λ e. by_head_viable y)) (by_cells_take m n r) (made_viable (λ all. begun.Cells all) (cells_viable holds value_holds m n)).local (words.sign signs.LeftParenthesis)
          (λ s le. rw (is_itself v words signs.LeftParenthesis) refl) (by_head_viable y)

      -- a function by the name of the capacities
      no_bracket : is v signs.LeftBracket (words.sign signs.LeftParenthesis) ≡ false
      unfolding same_sign
      no_bracket = rw (words.sign_is signs.LeftParenthesis) refl

      capacities_or_head_viable : {ends : Token → Bool} {r : ℕ} (first : Bool) → (first ≡ true → CapacityWords) → (l m : ℕ) → Viable ends r (λ s. capacities_or_head v first l m)
      unfolding capacities_or_head
      capacities_or_head_viable {ends = ends} {r = r} first here l m = record {
        local = commit_local (λ u. go (is v signs.LeftBracket u)) (λ ts a e. absurd (must_takes {ends = ends} {r = r} (is v signs.LeftParenthesis) inside ts a e)) (sign_viable signs.LeftParenthesis inside).local;
        live = λ s le. let x = (inside {ends = ends} {r = r}).live s le in record { word = words.sign signs.LeftParenthesis ∷ x.word; value = x.value; reads = λ z q. rw (no_bracket, is_itself v words signs.LeftParenthesis) (x.reads z q) };
      }
        where
          inside : {ends : Token → Bool} {r : ℕ} → Viable ends r (λ s. by_head (int_head v l (spelling w.Capacities)))
          inside = by_head_viable (int_viable l (spelling w.Capacities))

          go : (b : Bool) → ViableMove ends r (λ s. cond b (when first (by_capacities (capacities v m))) Stop)
          go true = when_move first (λ e. made_viable (λ c. begun.Capacities c) (capacities_viable (here e) m))
          go false = stop_move

      -- behind `int`
      pub behind_int_viable : {ends : Token → Bool} {r : ℕ} (first : Bool) → (first ≡ true → CapacityWords) → (l : ℕ) → Viable ends r (λ s. behind_int v holds first l)
      unfolding behind_int
      behind_int_viable {ends = ends} {r = r} first here l =
          choice_viable (λ u. go (line v u) (seen v u)) words.name (λ s le. rw words.name_is refl) (head_or_cells_viable (line v words.name) words.letters (int_viable l words.letters))
        where
          go : (m : ℕ) (a : What) → ViableMove ends r (λ s. behind_int_by v holds first l m a)
          go m (What.Fixed w.Main) = go_move (head_or_cells_viable m (spelling w.Main) (main_viable l))
          go m (What.Fixed w.Capacities) = go_move (capacities_or_head_viable first here l m)
          go m a = named_move (name_of a) (λ n. head_or_cells_viable m n (int_viable l n))
