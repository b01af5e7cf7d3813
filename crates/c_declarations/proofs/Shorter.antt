-- No parser of this crate takes a token back, so the bound on the turns of its loops is never met.
use Rattle.std.proofs.Common.{◌≡◌, ℕ, Bool, true, false, cond, List, Option, Some, None}
use Rattle.c_lexer.specs.declared.token.Sign.{Sign}
use Rattle.c_lexer.specs.declared.token.Sign.TheVariants as s
use Rattle.c_grammar.specs.declared.words.FixedWord.{FixedWord}
use Rattle.c_grammar.specs.declared.words.FixedWord.TheVariants as w
use Rattle.c_grammar.specs.Items.{What, name_of, cell_name, function_name, spelling}
use Rattle.parse_laws.specs.Parser.{Got, Parser, pure, Move, Stop, Go, when, separated, expect}
use Rattle.parse_laws.proofs.Sound.{Sound, SoundMove, stop_sound, go_sound}
use Rattle.c_expressions.specs.Parsers.{Sight, seen, is, go_named}
use Rattle.c_expressions.proofs.Shorter.{Less, less_pure, less_commit, less_choice, less_when, less_bind, less_must, less_then, less_loop}
use Rattle.c_declarations.specs.declared.tree.Sort.{Sort}
use Rattle.c_declarations.specs.declared.tree.Head.{Head}
use Rattle.c_declarations.specs.Words.{number_of, held}
use Rattle.c_declarations.specs.Parsers.{line, go_with, name, number, length_behind, alone, grown, more, braced, ended, negative, value, values, array_end, array_behind, scalar_behind, cell_behind, cell, no_ints, with_declared, cells_behind, is_ready, is_initial, initial, counted, initials, ready_by, objects_end, objects_behind, ready_object, object_behind, object, objects, numbers, prototype_end, prototype, capacity_values, prototypes, capacities, parameter, no_parameters_by, no_parameters, some_parameters, parameters_by, parameters, main_head, int_head, void_head, start_parameter, start_head, thread_head, head_behind_void, by_capacities, head_or_cells, capacities_or_head, behind_int_by, behind_int, wait_comes, wait_end, wait_behind_void, wait_prototype, wait_declared}

module _ {Token : Type 0} where
  less_with : {A B : Type 0} {p : B → Parser Token A} (x : Option B) → ((b : B) → Sound (p b) Less) → SoundMove Less (go_with p x)
  less_with None h = stop_sound
  less_with (Some b) h = go_sound (h b)

  less_named : {A : Type 0} {p : List ℕ → Parser Token A} (n : Option (List ℕ)) → ((n : List ℕ) → Sound (p n) Less) → SoundMove Less (go_named p n)
  less_named None h = stop_sound
  less_named (Some n) h = go_sound (h n)

  less_if : {A : Type 0} {p : Parser Token A} {m : Move Token A} (b : Bool) → Sound p Less → SoundMove Less m → SoundMove Less (cond b (Go p) m)
  less_if true x y = go_sound x
  less_if false x y = y

module _ {Token : Type 0} (v : Sight Token) where
  -- ---- lists

  less_more : {A B : Type 0} {item : Parser Token A} (add : B → A → B) (all : B) → Sound item Less → Sound (more v item add all) Less
  less_more add all x = less_loop (λ b u. less_then (less_when (is v s.Comma u) x) (λ y. less_pure)) all

  less_separated : {A B : Type 0} {item : Parser Token A} (add : B → A → B) (one : A → B) → Sound item Less → Sound (separated (is v s.Comma) item add one) Less
  less_separated add one x = less_bind x (λ a. less_more add (one a) x)

  less_ended : {A : Type 0} {p : Parser Token A} (sign : Sign) → Sound p Less → Sound (ended v sign p) Less
  less_ended sign x = less_bind x (λ a. less_must (is v sign) less_pure)

  pub less_braced : {A : Type 0} {p : Parser Token A} → Sound p Less → Sound (braced v p) Less
  less_braced x = less_must (is v s.LeftBrace) (less_bind x (λ a. less_must (is v s.RightBrace) less_pure))

  pub less_sign : (sign : Sign) → Sound (expect (is v sign)) Less
  less_sign sign = less_choice (λ u. less_when (is v sign u) less_pure)

  -- ---- single tokens

  pub less_name : Sound (name v) Less
  unfolding name
  less_name = less_choice (λ u. less_named (name_of (seen v u)) (λ n. less_pure))

  pub less_number : Sound (number v) Less
  unfolding number
  less_number = less_choice (λ u. less_with (number_of (seen v u)) (λ k. less_pure))

  pub less_length : Sound (length_behind v) Less
  unfolding length_behind
  less_length = less_bind less_number (λ k. less_must (is v s.RightBracket) less_pure)

  -- ---- values

  module _ (holds : ℕ → Bool) where
    less_negative : Sound (negative v holds) Less
    unfolding negative
    less_negative = less_choice (λ u. less_with (held holds (seen v u)) (λ k. less_pure))

    pub less_value : Sound (value v holds) Less
    unfolding value
    less_value = less_choice (λ u. less_if (is v s.Minus u) less_negative (less_with (held holds (seen v u)) (λ k. less_pure)))

    less_values : Sound (values v holds) Less
    unfolding values
    less_values = less_separated grown alone less_value

    -- ---- ints

    less_array_end : (l : ℕ) (n : List ℕ) (len : ℕ) → Sound (array_end v holds l n len) Less
    unfolding array_end
    less_array_end l n len = less_commit (λ u. less_when (is v s.Assign u) (less_bind (less_braced less_values) (λ all. less_pure))) less_pure

    less_array : (l : ℕ) (n : List ℕ) → Sound (array_behind v holds l n) Less
    unfolding array_behind
    less_array l n = less_bind less_length (λ len. less_array_end l n len)

    less_scalar : (l : ℕ) (n : List ℕ) → Sound (scalar_behind v holds l n) Less
    unfolding scalar_behind
    less_scalar l n = less_bind less_value (λ x. less_pure)

    less_cell_behind : (l : ℕ) (n : List ℕ) → Sound (cell_behind v holds l n) Less
    unfolding cell_behind
    less_cell_behind l n = less_commit (λ u. less_if (is v s.Assign u) (less_scalar l n) (less_when (is v s.LeftBracket u) (less_array l n))) less_pure

    pub less_cell : Sound (cell v holds) Less
    unfolding cell
    less_cell = less_choice (λ u. less_named (cell_name (seen v u)) (λ n. less_cell_behind (line v u) n))

    less_cells : (l : ℕ) (n : List ℕ) → Sound (cells_behind v holds l n) Less
    unfolding cells_behind
    less_cells l n = less_bind (less_cell_behind l n) (λ x. less_ended s.Semicolon (less_more with_declared (with_declared no_ints x) less_cell))

  -- ---- mutexes and conditions

  pub less_initial : (o : Sort) → Sound (initial v o) Less
  unfolding initial
  less_initial o = less_must (is_initial v o) less_pure

  less_initials : (o : Sort) → Sound (initials v o) Less
  unfolding initials
  less_initials o = less_separated counted (λ one. one) (less_initial o)

  less_ready : {A : Type 0} {p : Parser Token A} (o : Sort) → Sound p Less → (u : Token) → SoundMove Less (ready_by v o p u)
  less_ready {p = p} o x u = go (is v s.Assign u)
    where
      go : (b : Bool) → SoundMove Less (cond b (when (is_ready v o) p) Stop)
      go true = less_when (is_ready v o) x
      go false = stop_sound

  less_objects_end : (o : Sort) (l : ℕ) (n : List ℕ) (len : ℕ) → Sound (objects_end v o l n len) Less
  unfolding objects_end
  less_objects_end o l n len = less_commit (λ u. less_ready o (less_bind (less_braced (less_initials o)) (λ given. less_pure)) u) less_pure

  less_objects_behind : (o : Sort) (l : ℕ) (n : List ℕ) → Sound (objects_behind v o l n) Less
  unfolding objects_behind
  less_objects_behind o l n = less_bind less_length (λ len. less_objects_end o l n len)

  less_ready_object : (o : Sort) (l : ℕ) (n : List ℕ) → Sound (ready_object v o l n) Less
  unfolding ready_object
  less_ready_object o l n = less_bind (less_initial o) (λ given. less_pure)

  less_object_behind : (o : Sort) (l : ℕ) (n : List ℕ) → Sound (object_behind v o l n) Less
  unfolding object_behind
  less_object_behind o l n = less_commit (λ u. less_if (is v s.LeftBracket u) (less_objects_behind o l n) (less_ready o (less_ready_object o l n) u)) less_pure

  pub less_object : (o : Sort) → Sound (object v o) Less
  unfolding object
  less_object o = less_choice (λ u. less_named (name_of (seen v u)) (λ n. less_object_behind o (line v u) n))

  pub less_objects : (o : Sort) → Sound (objects v o) Less
  unfolding objects
  less_objects o = less_ended s.Semicolon (less_separated grown alone (less_object o))

  -- ---- the capacities

  less_numbers : Sound (numbers v) Less
  unfolding numbers
  less_numbers = less_separated grown alone less_number

  less_prototype_end : Sound (prototype_end v) Less
  unfolding prototype_end
  less_prototype_end = less_must _ (less_must _ (less_must _ (less_must _ (less_must _ less_pure))))

  less_prototype : (word : FixedWord) → Sound (prototype v word) Less
  unfolding prototype
  less_prototype word = less_must _ (less_must _ less_prototype_end)

  less_capacity_values : Sound (capacity_values v) Less
  unfolding capacity_values
  less_capacity_values = less_must _ (less_ended s.Semicolon (less_braced less_numbers))

  less_prototypes : Sound (prototypes v) Less
  unfolding prototypes
  less_prototypes = less_bind (less_prototype w.Take) (λ x. less_prototype w.Give)

  less_capacities : (l : ℕ) → Sound (capacities v l) Less
  unfolding capacities
  less_capacities l = less_bind less_length (λ len. less_bind less_capacity_values (λ all. less_bind less_prototypes (λ x. less_pure)))

  less_wait_prototype : Sound (wait_prototype v) Less
  unfolding wait_prototype wait_behind_void wait_end
  less_wait_prototype = less_must _ (less_must _ (less_must _ (less_must _ (less_must _ (less_must _ (less_must _ (less_must _ (less_must _ (less_must _ (less_must _ (less_must _ (less_must _ (less_must _ less_pure)))))))))))))

  pub less_wait_declared : Sound (wait_declared v) Less
  unfolding wait_declared
  less_wait_declared = record { spelled = λ ts x rest e. go (wait_comes v ts) ts x rest e }
    where
      go : (b : Bool) (ts : List Token) (x : Unit {0}) (rest : List Token) → cond b (wait_prototype v) (pure tt) ts ≡ Got x rest → Less ts rest x
      go true ts x rest e = less_wait_prototype.spelled ts x rest e
      go false ts x rest e = less_pure.spelled ts x rest e

  -- ---- heads

  pub less_parameter : Sound (parameter v) Less
  unfolding parameter
  less_parameter = less_must _ less_name

  less_no_parameters_by : (a : What) → SoundMove Less (no_parameters_by v a)
  less_no_parameters_by (What.Fixed w.Void) = go_sound (less_must (is v s.RightParenthesis) less_pure)
  less_no_parameters_by (What.Sign s.RightParenthesis) = go_sound less_pure
  less_no_parameters_by _ = stop_sound

  less_no_parameters : Sound (no_parameters v) Less
  unfolding no_parameters
  less_no_parameters = less_choice (λ u. less_no_parameters_by (seen v u))

  less_some_parameters : Sound (some_parameters v) Less
  unfolding some_parameters
  less_some_parameters = less_bind less_name (λ n. less_ended s.RightParenthesis (less_more grown (alone n) less_parameter))

  less_parameters_by : (a : What) → SoundMove Less (parameters_by v a)
  less_parameters_by (What.Fixed w.Int) = go_sound less_some_parameters
  less_parameters_by a = less_no_parameters_by a

  less_parameters : Sound (parameters v) Less
  unfolding parameters
  less_parameters = less_choice (λ u. less_parameters_by (seen v u))

  less_main : (l : ℕ) → Sound (main_head v l) Less
  unfolding main_head
  less_main l = less_bind less_no_parameters (λ all. less_pure)

  less_int : (l : ℕ) (n : List ℕ) → Sound (int_head v l n) Less
  unfolding int_head
  less_int l n = less_bind less_parameters (λ all. less_pure)

  less_void : (l : ℕ) (n : List ℕ) → Sound (void_head v l n) Less
  unfolding void_head
  less_void l n = less_must (is v s.LeftParenthesis) (less_bind less_parameters (λ all. less_pure))

  less_start_parameter : Sound (start_parameter v) Less
  unfolding start_parameter
  less_start_parameter = less_must _ (less_must _ less_name)

  less_start : (l : ℕ) (n : List ℕ) → Sound (start_head v l n) Less
  unfolding start_head
  less_start l n = less_must (is v s.LeftParenthesis) (less_bind (less_ended s.RightParenthesis less_start_parameter) (λ x. less_pure))

  less_thread : (l : ℕ) → Sound (thread_head v l) Less
  unfolding thread_head
  less_thread l = less_choice (λ u. less_named (function_name (seen v u)) (λ n. less_start l n))

  pub less_behind_void : (l : ℕ) → Sound (head_behind_void v l) Less
  unfolding head_behind_void
  less_behind_void l = less_choice (λ u. less_if (is v s.Star u) (less_thread l) (less_named (function_name (seen v u)) (λ n. less_void l n)))

  -- ---- what `int` begins

  less_head_or_cells : (holds : ℕ → Bool) (m : ℕ) (n : List ℕ) {head : Parser Token Head} → Sound head Less → Sound (head_or_cells v holds m n head) Less
  unfolding head_or_cells
  less_head_or_cells holds m n x = less_commit (λ u. less_when (is v s.LeftParenthesis u) (less_bind x (λ h. less_pure))) (less_bind (less_cells holds m n) (λ all. less_pure))

  less_capacities_or_head : (first : Bool) (l m : ℕ) → Sound (capacities_or_head v first l m) Less
  unfolding capacities_or_head
  less_capacities_or_head first l m = less_commit (λ u. go (is v s.LeftBracket u)) (less_must _ (less_bind (less_int l (spelling w.Capacities)) (λ h. less_pure)))
    where
      go : (b : Bool) → SoundMove Less (cond b (when first (by_capacities (capacities v m))) Stop)
      go true = less_when first (less_bind (less_capacities m) (λ c. less_pure))
      go false = stop_sound

  less_behind_int_by : (holds : ℕ → Bool) (first : Bool) (l m : ℕ) (a : What) → SoundMove Less (behind_int_by v holds first l m a)
  less_behind_int_by holds first l m (What.Fixed w.Main) = go_sound (less_head_or_cells holds m (spelling w.Main) (less_main l))
  less_behind_int_by holds first l m (What.Fixed w.Capacities) = go_sound (less_capacities_or_head first l m)
  less_behind_int_by holds first l m a = less_named (name_of a) (λ n. less_head_or_cells holds m n (less_int l n))

  pub less_behind_int : (holds : ℕ → Bool) (first : Bool) (l : ℕ) → Sound (behind_int v holds first l) Less
  unfolding behind_int
  less_behind_int holds first l = less_choice (λ u. less_behind_int_by holds first l (line v u) (seen v u))
