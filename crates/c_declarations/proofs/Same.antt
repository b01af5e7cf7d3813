-- Tokens of two types that are seen alike are read alike, up to a definition: what stands outside functions, up to their bodies.
use Rattle.std.proofs.Common.{◌≡◌, ℕ, nat_lt, ℤ, pos, neg_ℤ, Bool, true, false, cond, List, [], ◌∷◌, length, Option, Some, None, refl, sym, subst}
use Rattle.c_lexer.specs.declared.token.Sign.{Sign}
use Rattle.c_lexer.specs.declared.token.Sign.TheVariants as s
use Rattle.c_tree.specs.declared.program.Kind.TheVariants as kind
use Rattle.c_grammar.specs.declared.words.FixedWord.{FixedWord}
use Rattle.c_grammar.specs.declared.words.FixedWord.TheVariants as w
use Rattle.c_grammar.specs.Items.{What, Item, at, name_of, cell_name, function_name, spelling}
use Rattle.parse_laws.specs.Parser.{Parser, ◌>>=◌, pure, Move, Stop, Go, when, must, separated}
use Rattle.parse_laws.proofs.Alike.{Ways, Along, ended as all_ended, token, barred, Alike, AlikeMove, AlikeMoves, AlikeTest, Stays, alike_moves, pure_alike, commit_alike, choice_alike, option_alike, when_alike, test_alike, must_alike, bind_alike, many_alike, separated_alike}
use Rattle.c_expressions.specs.Words.{is_sign}
use Rattle.c_expressions.specs.Parsers.{Sight, what_at, seen, is, go_named, named}
use Rattle.c_expressions.proofs.Same as same
use Rattle.c_expressions.proofs.Same.{Like, bars, clear, by_bars}
use Rattle.c_declarations.specs.declared.tree.Sort.{Sort}
use Rattle.c_declarations.specs.declared.tree.Sort.TheVariants as sort
use Rattle.c_declarations.specs.declared.tree.Head.{Head}
use Rattle.c_declarations.specs.declared.tree.Begun.TheVariants as begun
use Rattle.c_declarations.specs.Words.{is_word, number_of, held, line_in, initial_word}
use Rattle.c_declarations.specs.Parsers.{line, is_fixed, go_with, name, number, length_behind, alone, grown, comma, more, commas, braced, ended, negative, value_by, value, values, scalar, several, array_end, array_behind, scalar_behind, cell_by, cell_behind, cell, no_ints, with_declared, more_cells, cells_behind, is_ready, initial, counted, initials, object_of, ready_by, objects_end, objects_behind, ready_object, object_by, object_behind, object, objects, numbers, prototype_end, prototype, capacities_of, capacity_values, prototypes, capacities, parameter, no_parameters_by, no_parameters, some_parameters, parameters_by, parameters, main_head, int_head, void_head, start_parameter, start_head, thread_head, void_by, head_behind_void, by_head, by_cells, by_capacities, capacities_by, capacities_head, capacities_or_head, head_or_cells, function_or_cells, behind_int_by, behind_int, is_at, comes_then, type_comes, open_comes, word_comes, wait_comes, wait_end, wait_behind_void, wait_prototype, wait_declared}

module _ {One Two : Type 0} (v : Sight One) (z : Sight Two) (like : Like v z) (Later : List One → List Two → Type 0) (long : (x : List One) (y : List Two) → Later x y → length x ≡ length y) where
  abbrev pub ways : Ways One Two Item
  ways = same.ways v z like Later long

  abbrev pub S : {A : Type 0} → Parser One A → Parser Two A → Type 0
  S p q = Alike ways p q

  abbrev pub SM : {A : Type 0} → Move One A → Move Two A → Type 0
  SM k m = AlikeMove ways k m

  abbrev pub SMs : {A : Type 0} → (One → Move One A) → (Two → Move Two A) → Type 0
  SMs k m = AlikeMoves ways k m

  module _ {A : Type 0} where
    -- moves by the item of a token
    by_item : (k : Item → Move One A) (m : Item → Move Two A) → ((t : Item) → SM (k t) (m t)) → ((t : Item) → bars t ≡ true → Stays ways (m t)) → SMs (λ u. k (v.item u)) (λ t. m (z.item t))
    by_item k m h d = alike_moves ways (λ u t e. subst (λ (x : Item). SM (k x) (m (z.item t))) (sym e) (h (z.item t))) (λ t b. d (z.item t) b)

    by_what : (k : What → Move One A) (m : What → Move Two A) → ((a : What) → SM (k a) (m a)) → Stays ways (m What.Definition) → Stays ways (m What.Repeated) → SMs (λ u. k (seen v u)) (λ t. m (seen z t))
    by_what k m h d r = same.by_what v z like Later long k m h d r

    with_same : {B : Type 0} (p : B → Parser One A) (q : B → Parser Two A) → ((b : B) → S (p b) (q b)) → (x : Option B) → SM (go_with p x) (go_with q x)
    with_same p q h None = tt
    with_same p q h (Some b) = h b

    pub named_same : (p : List ℕ → Parser One A) (q : List ℕ → Parser Two A) → ((n : List ℕ) → S (p n) (q n)) → (x : Option (List ℕ)) → SM (go_named p x) (go_named q x)
    named_same p q h None = tt
    named_same p q h (Some n) = h n

    if_same : (b : Bool) (p : Parser One A) (q : Parser Two A) (k : Move One A) (m : Move Two A) → S p q → SM k m → SM (cond b (Go p) k) (cond b (Go q) m)
    if_same true p q k m h d = h
    if_same false p q k m h d = d

    when_same : (b : Bool) (p : Parser One A) (q : Parser Two A) → S p q → SM (when b p) (when b q)
    when_same b p q h = when_alike ways b b p q refl h

    pub sign_same : (x : Sign) (p : Parser One A) (q : Parser Two A) → S p q → S (must (is v x) p) (must (is z x) q)
    sign_same x p q h = same.sign_same v z like Later long x p q h

    word_same : (x : FixedWord) (p : Parser One A) (q : Parser Two A) → S p q → S (must (is_fixed v x) p) (must (is_fixed z x) q)
    word_same x p q h = must_alike ways (is_fixed v x) (is_fixed z x) p q (same.test_by_what v z like Later long (is_word x) refl refl) h

    -- where a sign comes
    at_sign : (x : Sign) (p : Parser One A) (q : Parser Two A) → S p q → SMs (λ u. when (is v x u) p) (λ t. when (is z x t) q)
    at_sign x p q h = test_alike ways (is v x) (is z x) p q (same.is_same v z like Later long x) h

    pub ended_same : (x : Sign) (p : Parser One A) (q : Parser Two A) → S p q → S (ended v x p) (ended z x q)
    ended_same x p q h = bind_alike ways p q (λ a. must (is v x) (pure a)) (λ a. must (is z x) (pure a)) h (λ a. sign_same x (pure a) (pure a) (pure_alike ways a))

    braced_same : (p : Parser One A) (q : Parser Two A) → S p q → S (braced v p) (braced z q)
    braced_same p q h = sign_same s.LeftBrace (ended v s.RightBrace p) (ended z s.RightBrace q) (ended_same s.RightBrace p q h)

    more_same : {B : Type 0} (p : Parser One A) (q : Parser Two A) (add : B → A → B) (all : B) → S p q → S (more v p add all) (more z q add all)
    more_same p q add all h = many_alike ways (comma v p) (comma z q) add (at_sign s.Comma p q h) all

    separated_same : {B : Type 0} (p : Parser One A) (q : Parser Two A) (add : B → A → B) (one : A → B) → S p q → S (separated (is v s.Comma) p add one) (separated (is z s.Comma) q add one)
    separated_same p q add one h = separated_alike ways (is v s.Comma) (is z s.Comma) p q add one (same.is_same v z like Later long s.Comma) h

    commas_same : (p : Parser One A) (q : Parser Two A) → S p q → S (commas v p) (commas z q)
    commas_same p q h = separated_same p q grown alone h

    -- what is made of a part
    pub made_same : {B : Type 0} (p : Parser One A) (q : Parser Two A) (f : A → B) → S p q → S (p >>= λ a. pure (f a)) (q >>= λ a. pure (f a))
    made_same p q f h = bind_alike ways p q (λ a. pure (f a)) (λ a. pure (f a)) h (λ a. pure_alike ways (f a))

  -- ---- single tokens

  name_same : S (name v) (name z)
  unfolding name
  name_same = choice_alike ways (named v pure) (named z pure) (by_what (λ a. go_named pure (name_of a)) (λ a. go_named pure (name_of a)) (λ a. named_same pure pure (λ n. pure_alike ways n) (name_of a)) tt tt)

  number_same : S (number v) (number z)
  unfolding number
  number_same =
      choice_alike ways (λ u. go_with pure (number_of (seen v u))) (λ t. go_with pure (number_of (seen z t)))
      (by_what (λ a. go_with pure (number_of a)) (λ a. go_with pure (number_of a)) (λ a. with_same pure pure (λ k. pure_alike ways k) (number_of a)) tt tt)

  length_same : S (length_behind v) (length_behind z)
  unfolding length_behind
  length_same = ended_same s.RightBracket (number v) (number z) number_same

  -- ---- values

  -- where the numbers that there are may be first values alike
  module _ (holds mine : ℕ → Bool) (small : (k : ℕ) → nat_lt k 2147483648 ≡ true → holds k ≡ mine k) where
    held_alike : (f : ℕ → ℤ) (t : Item) → clear t ≡ true → SM (go_with (λ k. pure (f k)) (held holds (what_at t))) (go_with (λ k. pure (f k)) (held mine (what_at t)))
    held_alike f (at l (What.Number k)) c =
        subst (λ (b : Bool). SM (go_with (λ k. pure (f k)) (cond b (Some k) None)) (go_with (λ k. pure (f k)) (cond (mine k) (Some k) None))) (sym (small k c)) (with_same (λ k. pure (f k)) (λ k. pure (f k)) (λ k. pure_alike ways (f k)) (cond (mine k) (Some k) None))
    held_alike f (at l _) c = tt

    held_barred : (f : ℕ → ℤ) (t : Item) → bars t ≡ true → SM (go_with (λ k. pure (f k)) (held holds (what_at t))) (go_with (λ k. pure (f k)) (held mine (what_at t)))
    held_barred f t b = by_bars (λ a. SM (go_with (λ k. pure (f k)) (held holds a)) (go_with (λ k. pure (f k)) (held mine a))) tt tt t b

    held_same : (f : ℕ → ℤ) → SMs (λ u. go_with (λ k. pure (f k)) (held holds (seen v u))) (λ t. go_with (λ k. pure (f k)) (held mine (seen z t)))
    held_same f = record {
      moves = λ u t e c. subst (λ (x : Item). SM (go_with (λ k. pure (f k)) (held holds (what_at x))) (go_with (λ k. pure (f k)) (held mine (seen z t)))) (sym e) (held_alike f (z.item t) c);
      barred = λ u t e b. subst (λ (x : Item). SM (go_with (λ k. pure (f k)) (held holds (what_at x))) (go_with (λ k. pure (f k)) (held mine (seen z t)))) (sym e) (held_barred f (z.item t) b);
      stays = λ t b. by_bars (λ a. Stays ways (go_with (λ k. pure (f k)) (held mine a))) tt tt (z.item t) b;
    }

    negative_same : S (negative v holds) (negative z mine)
    unfolding negative
    negative_same = choice_alike ways (λ u. go_with (λ k. pure (neg_ℤ (pos k))) (held holds (seen v u))) (λ t. go_with (λ k. pure (neg_ℤ (pos k))) (held mine (seen z t))) (held_same (λ k. neg_ℤ (pos k)))

    value_alike : (f : What → Move One ℤ) (g : What → Move Two ℤ) → SMs (λ u. f (seen v u)) (λ t. g (seen z t)) → SMs (λ u. cond (is_sign s.Minus (seen v u)) (Go (negative v holds)) (f (seen v u))) (λ t. cond (is_sign s.Minus (seen z t)) (Go (negative z mine)) (g (seen z t)))
    value_alike f g h = record {
      moves = λ u t e c. go u t e (h.moves u t e c);
      barred = λ u t e b. go u t e (h.barred u t e b);
      stays = λ t b. by_bars (λ a. Stays ways (g a) → Stays ways (cond (is_sign s.Minus a) (Go (negative z mine)) (g a))) (λ k. k) (λ k. k) (z.item t) b (h.stays t b);
    }
      where
        go : (u : One) (t : Two) → v.item u ≡ z.item t → SM (f (seen v u)) (g (seen z t)) → SM (cond (is_sign s.Minus (seen v u)) (Go (negative v holds)) (f (seen v u))) (cond (is_sign s.Minus (seen z t)) (Go (negative z mine)) (g (seen z t)))
        go u t e d =
            subst (λ (x : Item). SM (f (what_at x)) (g (seen z t)) → SM (cond (is_sign s.Minus (what_at x)) (Go (negative v holds)) (f (what_at x))) (cond (is_sign s.Minus (seen z t)) (Go (negative z mine)) (g (seen z t)))) (sym e)
            (λ k. if_same (is_sign s.Minus (seen z t)) (negative v holds) (negative z mine) (f (seen z t)) (g (seen z t)) negative_same k) d

    value_same : S (value v holds) (value z mine)
    unfolding value
    value_same =
        choice_alike ways (value_by v holds) (value_by z mine) (value_alike (λ a. go_with (λ k. pure (pos k)) (held holds a)) (λ a. go_with (λ k. pure (pos k)) (held mine a)) (held_same (λ k. pos k)))

    values_same : S (values v holds) (values z mine)
    unfolding values
    values_same = commas_same (value v holds) (value z mine) value_same

    -- ---- ints

    module _ (l : ℕ) (n : List ℕ) where
      array_end_same : (len : ℕ) → S (array_end v holds l n len) (array_end z mine l n len)
      unfolding array_end
      array_end_same len =
          option_alike ways (λ u. when (is v s.Assign u) (braced v (values v holds) >>= λ all. pure (several l n len all))) (λ t. when (is z s.Assign t) (braced z (values z mine) >>= λ all. pure (several l n len all))) (several l n len [])
          (at_sign s.Assign _ _ (made_same (braced v (values v holds)) (braced z (values z mine)) (several l n len) (braced_same (values v holds) (values z mine) values_same)))

      array_same : S (array_behind v holds l n) (array_behind z mine l n)
      unfolding array_behind
      array_same = bind_alike ways (length_behind v) (length_behind z) (λ len. array_end v holds l n len) (λ len. array_end z mine l n len) length_same array_end_same

      scalar_same : S (scalar_behind v holds l n) (scalar_behind z mine l n)
      unfolding scalar_behind
      scalar_same = made_same (value v holds) (value z mine) (scalar l n) value_same

      cell_behind_same : S (cell_behind v holds l n) (cell_behind z mine l n)
      unfolding cell_behind
      cell_behind_same =
          option_alike ways (cell_by v holds l n) (cell_by z mine l n) (scalar l n (pos 0))
          (by_what (λ a. cond (is_sign s.Assign a) (Go (scalar_behind v holds l n)) (when (is_sign s.LeftBracket a) (array_behind v holds l n))) (λ a. cond (is_sign s.Assign a) (Go (scalar_behind z mine l n)) (when (is_sign s.LeftBracket a) (array_behind z mine l n)))
          (λ a. if_same (is_sign s.Assign a) (scalar_behind v holds l n) (scalar_behind z mine l n) _ _ scalar_same (when_same (is_sign s.LeftBracket a) (array_behind v holds l n) (array_behind z mine l n) array_same)) tt tt)

    cell_same : S (cell v holds) (cell z mine)
    unfolding cell
    cell_same =
        choice_alike ways (λ u. go_named (cell_behind v holds (line v u)) (cell_name (seen v u))) (λ t. go_named (cell_behind z mine (line z t)) (cell_name (seen z t)))
        (by_item (λ t. go_named (cell_behind v holds (line_in t)) (cell_name (what_at t))) (λ t. go_named (cell_behind z mine (line_in t)) (cell_name (what_at t)))
        (λ t. named_same (cell_behind v holds (line_in t)) (cell_behind z mine (line_in t)) (cell_behind_same (line_in t)) (cell_name (what_at t)))
        (λ t b. by_bars (λ a. Stays ways (go_named (cell_behind z mine (line_in t)) (cell_name a))) tt tt t b))

    cells_same : (l : ℕ) (n : List ℕ) → S (cells_behind v holds l n) (cells_behind z mine l n)
    unfolding cells_behind
    cells_same l n =
        bind_alike ways (cell_behind v holds l n) (cell_behind z mine l n) (λ x. ended v s.Semicolon (more_cells v holds (with_declared no_ints x))) (λ x. ended z s.Semicolon (more_cells z mine (with_declared no_ints x))) (cell_behind_same l n)
        (λ x. ended_same s.Semicolon (more_cells v holds (with_declared no_ints x)) (more_cells z mine (with_declared no_ints x)) (more_same (cell v holds) (cell z mine) with_declared (with_declared no_ints x) cell_same))

  -- ---- mutexes and conditions

  module _ (o : Sort) where
    ready_is : is_ready v o ≡ is_ready z o
    ready_is = go o
      where
        go : (o : Sort) → is_ready v o ≡ is_ready z o
        go sort.Mutex = like.ready_mutexes
        go sort.Condition = like.ready_conditions

    initial_same : S (initial v o) (initial z o)
    unfolding initial
    initial_same = word_same (initial_word o) (pure 1) (pure 1) (pure_alike ways 1)

    initials_same : S (initials v o) (initials z o)
    unfolding initials
    initials_same = separated_same (initial v o) (initial z o) counted (λ one. one) initial_same

    ready_same : {A : Type 0} (p : Parser One A) (q : Parser Two A) → S p q → (a : What) → SM (cond (is_sign s.Assign a) (when (is_ready v o) p) Stop) (cond (is_sign s.Assign a) (when (is_ready z o) q) Stop)
    ready_same p q h a = go (is_sign s.Assign a)
      where
        go : (b : Bool) → SM (cond b (when (is_ready v o) p) Stop) (cond b (when (is_ready z o) q) Stop)
        go true = when_alike ways (is_ready v o) (is_ready z o) p q ready_is h
        go false = tt

    module _ (l : ℕ) (n : List ℕ) where
      objects_end_same : (len : ℕ) → S (objects_end v o l n len) (objects_end z o l n len)
      unfolding objects_end
      objects_end_same len =
          option_alike ways (ready_by v o (braced v (initials v o) >>= λ given. pure (object_of l n (Some len) true given))) (ready_by z o (braced z (initials z o) >>= λ given. pure (object_of l n (Some len) true given))) (object_of l n (Some len) false 0)
          (by_what (λ a. cond (is_sign s.Assign a) (when (is_ready v o) (braced v (initials v o) >>= λ given. pure (object_of l n (Some len) true given))) Stop) (λ a. cond (is_sign s.Assign a) (when (is_ready z o) (braced z (initials z o) >>= λ given. pure (object_of l n (Some len) true given))) Stop)
          (ready_same _ _ (made_same (braced v (initials v o)) (braced z (initials z o)) (object_of l n (Some len) true) (braced_same (initials v o) (initials z o) initials_same))) tt tt)

      objects_behind_same : S (objects_behind v o l n) (objects_behind z o l n)
      unfolding objects_behind
      objects_behind_same = bind_alike ways (length_behind v) (length_behind z) (λ len. objects_end v o l n len) (λ len. objects_end z o l n len) length_same objects_end_same

      ready_object_same : S (ready_object v o l n) (ready_object z o l n)
      unfolding ready_object
      ready_object_same = made_same (initial v o) (initial z o) (object_of l n None true) initial_same

      object_behind_same : S (object_behind v o l n) (object_behind z o l n)
      unfolding object_behind
      object_behind_same =
          option_alike ways (object_by v o l n) (object_by z o l n) (object_of l n None false 0)
          (by_what (λ a. cond (is_sign s.LeftBracket a) (Go (objects_behind v o l n)) (cond (is_sign s.Assign a) (when (is_ready v o) (ready_object v o l n)) Stop))
          (λ a. cond (is_sign s.LeftBracket a) (Go (objects_behind z o l n)) (cond (is_sign s.Assign a) (when (is_ready z o) (ready_object z o l n)) Stop))
          (λ a. if_same (is_sign s.LeftBracket a) (objects_behind v o l n) (objects_behind z o l n) _ _ objects_behind_same (ready_same (ready_object v o l n) (ready_object z o l n) ready_object_same a)) tt tt)

    object_same : S (object v o) (object z o)
    unfolding object
    object_same =
        choice_alike ways (λ u. named v (object_behind v o (line v u)) u) (λ t. named z (object_behind z o (line z t)) t)
        (by_item (λ t. go_named (object_behind v o (line_in t)) (name_of (what_at t))) (λ t. go_named (object_behind z o (line_in t)) (name_of (what_at t)))
        (λ t. named_same (object_behind v o (line_in t)) (object_behind z o (line_in t)) (object_behind_same (line_in t)) (name_of (what_at t)))
        (λ t b. by_bars (λ a. Stays ways (go_named (object_behind z o (line_in t)) (name_of a))) tt tt t b))

    pub objects_same : S (objects v o) (objects z o)
    unfolding objects
    objects_same = ended_same s.Semicolon (commas v (object v o)) (commas z (object z o)) (commas_same (object v o) (object z o) object_same)

  -- ---- the capacities

  prototype_same : (word : FixedWord) → S (prototype v word) (prototype z word)
  unfolding prototype prototype_end
  prototype_same word =
      word_same w.Void _ _ (word_same word _ _ (sign_same s.LeftParenthesis _ _ (word_same w.Int _ _ (word_same w.Parameter _ _ (sign_same s.RightParenthesis _ _ (sign_same s.Semicolon (pure tt) (pure tt) (pure_alike ways tt)))))))

  capacity_values_same : S (capacity_values v) (capacity_values z)
  unfolding capacity_values numbers
  capacity_values_same =
      sign_same s.Assign _ _ (ended_same s.Semicolon (braced v (numbers v)) (braced z (numbers z)) (braced_same (numbers v) (numbers z) (commas_same (number v) (number z) number_same)))

  prototypes_same : S (prototypes v) (prototypes z)
  unfolding prototypes
  prototypes_same = bind_alike ways (prototype v w.Take) (prototype z w.Take) (λ _. prototype v w.Give) (λ _. prototype z w.Give) (prototype_same w.Take) (λ x. prototype_same w.Give)

  capacities_same : (l : ℕ) → S (capacities v l) (capacities z l)
  unfolding capacities
  capacities_same l =
      bind_alike ways (length_behind v) (length_behind z) (λ len. capacity_values v >>= λ all. prototypes v >>= λ _. pure (capacities_of l len all)) (λ len. capacity_values z >>= λ all. prototypes z >>= λ _. pure (capacities_of l len all)) length_same
      (λ len. bind_alike ways (capacity_values v) (capacity_values z) (λ all. prototypes v >>= λ _. pure (capacities_of l len all)) (λ all. prototypes z >>= λ _. pure (capacities_of l len all)) capacity_values_same
      (λ all. made_same (prototypes v) (prototypes z) (λ x. capacities_of l len all) prototypes_same))

  -- ---- the declaration of `gd_cond_wait`

  module _ {k : One → Bool} {m : Two → Bool} (test : AlikeTest ways k m) where
    at_same : (x : List One) (y : List Two) → Along ways x y → is_at k x ≡ is_at m y
    at_same _ _ all_ended = refl
    at_same _ _ (token {u = u} {t = t} e c h) = test.same u t e
    at_same _ _ (barred {u = u} {t = t} e b h) = test.same u t e

    then_same : (p : List One → Bool) (q : List Two → Bool) → ((x : List One) (y : List Two) → Along ways x y → p x ≡ q y) → (x : List One) (y : List Two) → Along ways x y → comes_then k p x ≡ comes_then m q y
    then_same p q more _ _ all_ended = refl
    then_same p q more _ _ (token {u = u} {t = t} {x = x} {y = y} e c h) = rw (test.same u t e, more x y h) refl
    then_same p q more _ _ (barred {u = u} {t = t} e b h) = rw (test.same u t e, test.passes t b) refl

  word_test : (x : FixedWord) → AlikeTest ways (is_fixed v x) (is_fixed z x)
  word_test x = same.test_by_what v z like Later long (is_word x) refl refl

  wait_comes_same : (x : List One) (y : List Two) → Along ways x y → wait_comes v x ≡ wait_comes z y
  wait_comes_same =
      then_same (word_test w.Void) (word_comes v) (word_comes z) (then_same (word_test w.ControlledWait) (open_comes v) (open_comes z) (then_same (same.is_same v z like Later long s.LeftParenthesis) (type_comes v) (type_comes z) (at_same (word_test w.Condition))))

  wait_prototype_same : S (wait_prototype v) (wait_prototype z)
  unfolding wait_prototype wait_behind_void wait_end
  wait_prototype_same =
      word_same w.Void _ _ (word_same w.ControlledWait _ _ (sign_same s.LeftParenthesis _ _ (word_same w.Condition _ _ (sign_same s.Star _ _ (word_same w.ConditionParameter _ _ (sign_same s.Comma _ _ (word_same w.Mutex _ _ (sign_same s.Star _ _
      (word_same w.MutexParameter _ _ (sign_same s.Comma _ _ (sign_same s.Ellipsis _ _ (sign_same s.RightParenthesis _ _ (sign_same s.Semicolon (pure tt) (pure tt) (pure_alike ways tt))))))))))))))

  pub wait_declared_same : S (wait_declared v) (wait_declared z)
  unfolding wait_declared
  wait_declared_same = λ x y h. rw (wait_comes_same x y h) (go (wait_comes z y) x y h)
    where
      go : (b : Bool) → S (cond b (wait_prototype v) (pure tt)) (cond b (wait_prototype z) (pure tt))
      go true = wait_prototype_same
      go false = pure_alike ways tt

  -- ---- heads

  parameter_same : S (parameter v) (parameter z)
  unfolding parameter
  parameter_same = word_same w.Int (name v) (name z) name_same

  no_parameters_move : (a : What) → SM (no_parameters_by v a) (no_parameters_by z a)
  no_parameters_move (What.Fixed w.Void) = sign_same s.RightParenthesis (pure []) (pure []) (pure_alike ways [])
  no_parameters_move (What.Sign s.RightParenthesis) = pure_alike ways []
  no_parameters_move _ = tt

  no_parameters_same : S (no_parameters v) (no_parameters z)
  unfolding no_parameters
  no_parameters_same = choice_alike ways (λ u. no_parameters_by v (seen v u)) (λ t. no_parameters_by z (seen z t)) (by_what (no_parameters_by v) (no_parameters_by z) no_parameters_move tt tt)

  some_parameters_same : S (some_parameters v) (some_parameters z)
  unfolding some_parameters
  some_parameters_same =
      bind_alike ways (name v) (name z) (λ n. ended v s.RightParenthesis (more v (parameter v) grown (alone n))) (λ n. ended z s.RightParenthesis (more z (parameter z) grown (alone n))) name_same
      (λ n. ended_same s.RightParenthesis (more v (parameter v) grown (alone n)) (more z (parameter z) grown (alone n)) (more_same (parameter v) (parameter z) grown (alone n) parameter_same))

  parameters_same : S (parameters v) (parameters z)
  unfolding parameters
  parameters_same = choice_alike ways (λ u. parameters_by v (seen v u)) (λ t. parameters_by z (seen z t)) (by_what (parameters_by v) (parameters_by z) go tt tt)
    where
      go : (a : What) → SM (parameters_by v a) (parameters_by z a)
      go (What.Fixed w.Int) = some_parameters_same
      go a = no_parameters_move a

  main_same : (l : ℕ) → S (main_head v l) (main_head z l)
  unfolding main_head
  main_same l = made_same (no_parameters v) (no_parameters z) (λ all. record { name = spelling w.Main; kind = kind.Main; params = all; line = l }) no_parameters_same

  int_same : (l : ℕ) (n : List ℕ) → S (int_head v l n) (int_head z l n)
  unfolding int_head
  int_same l n = made_same (parameters v) (parameters z) (λ all. record { name = n; kind = kind.Int; params = all; line = l }) parameters_same

  void_same : (l : ℕ) (n : List ℕ) → S (void_head v l n) (void_head z l n)
  unfolding void_head
  void_same l n = sign_same s.LeftParenthesis _ _ (made_same (parameters v) (parameters z) (λ all. record { name = n; kind = kind.Void; params = all; line = l }) parameters_same)

  start_parameter_same : S (start_parameter v) (start_parameter z)
  unfolding start_parameter
  start_parameter_same = word_same w.Void _ _ (sign_same s.Star (name v) (name z) name_same)

  start_same : (l : ℕ) (n : List ℕ) → S (start_head v l n) (start_head z l n)
  unfolding start_head
  start_same l n =
      sign_same s.LeftParenthesis _ _ (made_same (ended v s.RightParenthesis (start_parameter v)) (ended z s.RightParenthesis (start_parameter z)) (λ x. record { name = n; kind = kind.Thread; params = x ∷ []; line = l })
      (ended_same s.RightParenthesis (start_parameter v) (start_parameter z) start_parameter_same))

  thread_same : (l : ℕ) → S (thread_head v l) (thread_head z l)
  unfolding thread_head
  thread_same l =
      choice_alike ways (λ u. go_named (start_head v l) (function_name (seen v u))) (λ t. go_named (start_head z l) (function_name (seen z t)))
      (by_what (λ a. go_named (start_head v l) (function_name a)) (λ a. go_named (start_head z l) (function_name a)) (λ a. named_same (start_head v l) (start_head z l) (start_same l) (function_name a)) tt tt)

  pub behind_void_same : (l : ℕ) → S (head_behind_void v l) (head_behind_void z l)
  unfolding head_behind_void
  behind_void_same l =
      choice_alike ways (void_by v l) (void_by z l)
      (by_what (λ a. cond (is_sign s.Star a) (Go (thread_head v l)) (go_named (void_head v l) (function_name a))) (λ a. cond (is_sign s.Star a) (Go (thread_head z l)) (go_named (void_head z l) (function_name a)))
      (λ a. if_same (is_sign s.Star a) (thread_head v l) (thread_head z l) _ _ (thread_same l) (named_same (void_head v l) (void_head z l) (void_same l) (function_name a))) tt tt)

  -- ---- what `int` begins

  head_or_cells_same : (holds mine : ℕ → Bool) → ((k : ℕ) → nat_lt k 2147483648 ≡ true → holds k ≡ mine k) → (m : ℕ) (n : List ℕ) (p : Parser One Head) (q : Parser Two Head) → S p q → S (head_or_cells v holds m n p) (head_or_cells z mine m n q)
  unfolding head_or_cells
  head_or_cells_same holds mine small m n p q h =
      commit_alike ways (λ u. when (is v s.LeftParenthesis u) (by_head p)) (λ t. when (is z s.LeftParenthesis t) (by_head q)) (by_cells (cells_behind v holds m n)) (by_cells (cells_behind z mine m n))
      (at_sign s.LeftParenthesis (by_head p) (by_head q) (made_same p q (λ h. begun.Head h) h)) (made_same (cells_behind v holds m n) (cells_behind z mine m n) (λ all. begun.Cells all) (cells_same holds mine small m n))

  capacities_or_head_same : (first : Bool) (l m : ℕ) → S (capacities_or_head v first l m) (capacities_or_head z first l m)
  unfolding capacities_or_head
  capacities_or_head_same first l m =
      commit_alike ways (capacities_by v first m) (capacities_by z first m) (capacities_head v l) (capacities_head z l)
      (by_what (λ a. cond (is_sign s.LeftBracket a) (when first (by_capacities (capacities v m))) Stop) (λ a. cond (is_sign s.LeftBracket a) (when first (by_capacities (capacities z m))) Stop) (λ a. go (is_sign s.LeftBracket a)) tt tt)
      (sign_same s.LeftParenthesis _ _ (made_same (int_head v l (spelling w.Capacities)) (int_head z l (spelling w.Capacities)) (λ h. begun.Head h) (int_same l (spelling w.Capacities))))
    where
      go : (b : Bool) → SM (cond b (when first (by_capacities (capacities v m))) Stop) (cond b (when first (by_capacities (capacities z m))) Stop)
      go true = when_same first (by_capacities (capacities v m)) (by_capacities (capacities z m)) (made_same (capacities v m) (capacities z m) (λ c. begun.Capacities c) (capacities_same m))
      go false = tt

  pub behind_int_same : (holds mine : ℕ → Bool) → ((k : ℕ) → nat_lt k 2147483648 ≡ true → holds k ≡ mine k) → (first : Bool) (l : ℕ) → S (behind_int v holds first l) (behind_int z mine first l)
  unfolding behind_int
  behind_int_same holds mine small first l =
      choice_alike ways (λ u. behind_int_by v holds first l (line v u) (seen v u)) (λ t. behind_int_by z mine first l (line z t) (seen z t))
      (by_item (λ t. behind_int_by v holds first l (line_in t) (what_at t)) (λ t. behind_int_by z mine first l (line_in t) (what_at t)) (λ t. go (line_in t) (what_at t))
      (λ t b. by_bars (λ a. Stays ways (behind_int_by z mine first l (line_in t) a)) tt tt t b))
    where
      go : (m : ℕ) (a : What) → SM (behind_int_by v holds first l m a) (behind_int_by z mine first l m a)
      go m (What.Fixed w.Main) = head_or_cells_same holds mine small m (spelling w.Main) (main_head v l) (main_head z l) (main_same l)
      go m (What.Fixed w.Capacities) = capacities_or_head_same first l m
      go m a = named_same (function_or_cells v holds l m) (function_or_cells z mine l m) (λ n. head_or_cells_same holds mine small m n (int_head v l n) (int_head z l n) (int_same l n)) (name_of a)
