-- No parser of this crate takes a token back, so the bound on the turns of its loop is never met.
use Rattle.std.proofs.Common.{ℕ, Bool, true, false, List, Option, Some, None}
use Rattle.c_lexer.specs.declared.token.Sign.TheVariants as s
use Rattle.c_tree.specs.declared.program.Kind.{Kind}
use Rattle.c_tree.specs.declared.program.Slot.{Slot}
use Rattle.c_grammar.specs.Items.{name_of}
use Rattle.c_grammar.specs.Levels.{Tall}
use Rattle.c_grammar.specs.Programs.{with_slots}
use Rattle.c_tree.specs.Lined.{Program}
use Rattle.parse_laws.specs.Parser.{Parser, Move, Stop, Deep, Go}
use Rattle.parse_laws.proofs.Sound.{Sound, SoundMove, stop_sound, deep_sound, go_sound}
use Rattle.parse_laws.proofs.Loops.{Shrinks}
use Rattle.c_expressions.specs.Parsers.{Sight, seen, is, go_named}
use Rattle.c_expressions.proofs.Shorter.{Less, less_pure, less_commit, less_choice, less_when, less_bind, less_must, less_then, less_loop, less_shrinks}
use Rattle.c_declarations.specs.declared.tree.Sort.{Sort}
use Rattle.c_declarations.specs.declared.tree.Sort.TheVariants as sort
use Rattle.c_declarations.specs.declared.tree.Head.{Head}
use Rattle.c_declarations.specs.declared.tree.Begun.{Begun}
use Rattle.c_declarations.specs.declared.tree.Begun.TheVariants as begun
use Rattle.c_declarations.specs.Parsers.{line}
use Rattle.c_declarations.proofs.Shorter.{less_behind_int, less_behind_void, less_objects, less_wait_declared}
use Rattle.c_simple.specs.Words.{number_of}
use Rattle.c_statements.specs.Parsers.{body, slot_list, slot_length, length_by, slot_behind, more_slots}
use Rattle.c_statements.proofs.Shorter.{body_shrinks, comma_shrinks}
use Rattle.c_programs.specs.declared.token.Opening.{Opening}
use Rattle.c_programs.specs.declared.token.Opening.TheVariants as o
use Rattle.c_programs.specs.Words.{outer_opening}
use Rattle.c_programs.specs.Parsers.{Views, Reading, read, function_behind, function_added, finished, ints_added, void_added, objects_added, slots_added, declared_by, static_added, outer_by, turn_by, turn, first_by, first_part}

-- a move that takes no token back
less_move : {Token A : Type 0} (m : Move Token A) → Shrinks m → SoundMove Less m
less_move Stop h = stop_sound
less_move Deep h = deep_sound
less_move (Go p) h = go_sound (record { spelled = h })

module _ {Token : Type 0} (v : Sight Token) where
  less_name : {A : Type 0} {p : List ℕ → Parser Token A} (n : Option (List ℕ)) → ((n : List ℕ) → Sound (p n) Less) → SoundMove Less (go_named p n)
  less_name None h = stop_sound
  less_name (Some n) h = go_sound (h n)

  less_body : (kind : Kind) (room : ℕ) → Sound (body v kind room) Less
  less_body kind room = less_loop (λ b u. less_move _ (body_shrinks v kind room b u)) _

  less_slot_behind : (l : ℕ) (n : List ℕ) → Sound (slot_behind v l n) Less
  unfolding slot_behind slot_length
  less_slot_behind l n = less_commit (λ u. less_when (is v s.LeftBracket u) (less_choice (λ t. go (number_of (seen v t))))) less_pure
    where
      go : (k : Option ℕ) → SoundMove Less (length_by v l n k)
      go None = stop_sound
      go (Some k) = go_sound (less_must (is v s.RightBracket) less_pure)

  less_more_slots : (all : List Slot) → Sound (more_slots v all) Less
  unfolding more_slots
  less_more_slots all = less_bind (less_loop (λ b u. less_then (less_move _ (comma_shrinks v u)) (λ x. less_pure)) all) (λ all. less_must (is v s.Semicolon) less_pure)

  less_slots : Sound (slot_list v) Less
  unfolding slot_list
  less_slots = less_choice (λ u. less_name (name_of (seen v u)) (λ n. less_bind (less_slot_behind _ n) (λ x. less_more_slots _)))

  less_function : (room : ℕ) (h : Head) → Sound (function_behind v room h) Less
  unfolding function_behind
  less_function room h = less_must (is v s.LeftBrace) (less_bind (less_body h.kind room) (λ b. less_bind (less_choice (λ u. less_when (is v s.RightBrace u) less_pure)) (λ u. less_pure)))

  less_added : (room : ℕ) (p : Tall Program) (h : Head) → Sound (function_added v room p h) Less
  less_added room p h = less_bind (less_function room h) (λ f. less_pure)

  less_finished : (room : ℕ) (p : Tall Program) (x : Begun) → Sound (finished v room p x) Less
  less_finished room p (begun.Cells all) = less_pure
  less_finished room p (begun.Head h) = less_added room p h
  less_finished room p (begun.Capacities c) = less_bind (less_wait_declared v) (λ x. less_pure)

  pub less_ints : (holds : ℕ → Bool) (room : ℕ) (first : Bool) (l : ℕ) (p : Tall Program) → Sound (ints_added v holds room first l p) Less
  unfolding ints_added
  less_ints holds room first l p = less_bind (less_behind_int v holds first l) (λ x. less_finished room p x)

  less_void : (room l : ℕ) (p : Tall Program) → Sound (void_added v room l p) Less
  unfolding void_added
  less_void room l p = less_bind (less_behind_void v l) (λ h. less_added room p h)

  less_objects_added : (o : Sort) (p : Tall Program) → Sound (objects_added v o p) Less
  unfolding objects_added
  less_objects_added o p = less_bind (less_objects v o) (λ all. less_pure)

  less_slots_added : (p : Tall Program) → Sound (slots_added v p) Less
  unfolding slots_added
  less_slots_added p = less_bind less_slots (λ all. less_pure {a = with_slots p all})

  less_declared : (holds : ℕ → Bool) (room : ℕ) (p : Tall Program) (l : ℕ) (x : Opening) → SoundMove Less (declared_by v holds room p l x)
  less_declared holds room p l o.Int = go_sound (less_ints holds room false l p)
  less_declared holds room p l o.Void = go_sound (less_void room l p)
  less_declared holds room p l o.Mutex = go_sound (less_objects_added sort.Mutex p)
  less_declared holds room p l o.Condition = go_sound (less_objects_added sort.Condition p)
  less_declared holds room p l o.Thread = go_sound (less_slots_added p)
  less_declared holds room p l _ = stop_sound

  less_static : (holds : ℕ → Bool) (room : ℕ) (p : Tall Program) → Sound (static_added v holds room p) Less
  unfolding static_added
  less_static holds room p = less_choice (λ u. less_declared holds room p (line v u) (outer_opening (seen v u)))

  less_outer : (holds : ℕ → Bool) (room : ℕ) (p : Tall Program) (l : ℕ) (x : Opening) → SoundMove Less (outer_by v holds room p l x)
  less_outer holds room p l o.Static = less_when v.declarations (less_static holds room p)
  less_outer holds room p l x = less_declared holds room p l x

module _ {Token Definitions : Type 0} (views : Views Token Definitions) (room : ℕ) where
  less_turn : (r : Reading Definitions) (u : Token) (x : Opening) → SoundMove Less (turn_by views room r u x)
  less_turn r u o.Definition = go_sound less_pure
  less_turn r u x = less_then (less_outer (views.sight r.defined) views.holds room r.program (line (views.sight r.defined) u) x) (λ p. less_pure {a = read r.defined p})

  pub turn_shrinks : (r : Reading Definitions) (u : Token) → Shrinks (turn views room r u)
  turn_shrinks r u = less_shrinks (less_turn r u (outer_opening (seen (views.sight r.defined) u)))

  pub less_first : (p : Tall Program) → Sound (first_part views room p) Less
  unfolding first_part
  less_first p = less_commit (λ u. go (line (views.sight views.none) u) (outer_opening (seen (views.sight views.none) u))) less_pure
    where
      go : (l : ℕ) (x : Opening) → SoundMove Less (first_by views room p l x)
      go l o.Int = go_sound (less_ints (views.sight views.none) views.holds room true l p)
      go l _ = stop_sound
