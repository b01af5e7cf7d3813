-- The parser of programs as one that looks no more than one token ahead, behind the capacities too.
use Rattle.std.proofs.Common.{◌≡◌, ℕ, Bool, true, false, cond, List, [], ◌∷◌, Option, Some, None, refl, ◌∙◌}
use Rattle.c_tree.specs.Lined.{Program}
use Rattle.c_grammar.specs.declared.words.FixedWord.TheVariants as w
use Rattle.c_grammar.specs.Levels.{Tall}
use Rattle.c_grammar.specs.Programs.{empty_program}
use Rattle.parse_laws.specs.Parser.{Outcome, Got, Failed, Parser, and_then, ◌>>=◌, pure, Move, Stop, Go, moved, commit, when, loop}
use Rattle.parse_laws.proofs.Loops.{loop_is}
use Rattle.c_expressions.specs.Parsers.{Sight, seen}
use Rattle.c_declarations.specs.declared.tree.Head.{Head}
use Rattle.c_declarations.specs.declared.tree.Begun.{Begun}
use Rattle.c_declarations.specs.declared.tree.Begun.TheVariants as begun
use Rattle.c_declarations.specs.Parsers.{line, is_fixed, behind_int, head_behind_void, word_comes, wait_behind_void, wait_prototype, wait_declared}
use Rattle.c_declarations.proofs.Tokens.{fixed_at}
use Rattle.c_declarations.proofs.Waits.{head_or_wait, no_wait, some_wait}
use Rattle.c_programs.specs.declared.token.Opening.{Opening}
use Rattle.c_programs.specs.declared.token.Opening.TheVariants as o
use Rattle.c_programs.specs.Words.{outer_opening}
use Rattle.c_programs.specs.Parsers.{Views, read, with_capacities, function_added, finished, ints_added, void_added, turn, first_by, first_part, program}
use Rattle.c_programs.proofs.Shorter.{turn_shrinks}

module _ {Token : Type 0} (v : Sight Token) (holds : ℕ → Bool) (room : ℕ) where
  abbrev pub optional_function : Tall Program → Option Head → Parser Token (Tall Program)
  optional_function p None = pure p
  optional_function p (Some h) = function_added v room p h

  -- behind the capacities: `void` goes on as the declaration of `gd_cond_wait`, or as a function
  abbrev pub void_or_wait : Tall Program → Parser Token (Tall Program)
  void_or_wait p = commit (λ u. when (is_fixed v w.Void u) (head_or_wait v (line v u) >>= optional_function p)) (pure p)

  abbrev pub finished_step : Tall Program → Begun → Parser Token (Tall Program)
  finished_step p (begun.Cells all) = finished v room p (begun.Cells all)
  finished_step p (begun.Head h) = finished v room p (begun.Head h)
  finished_step p (begun.Capacities c) = void_or_wait (with_capacities p c)

  abbrev pub ints_step : ℕ → Tall Program → Parser Token (Tall Program)
  ints_step l p = behind_int v holds true l >>= finished_step p

module _ {Token Definitions : Type 0} (views : Views Token Definitions) (room : ℕ) where
  abbrev v0 : Sight Token
  v0 = views.sight views.none

  abbrev pub first_step_by : Tall Program → ℕ → Opening → Move Token (Tall Program)
  first_step_by p l o.Int = Go (ints_step v0 views.holds room l p)
  first_step_by p l _ = Stop

  abbrev pub first_step : Tall Program → Parser Token (Tall Program)
  first_step p = commit (λ u. first_step_by p (line v0 u) (outer_opening (seen v0 u))) (pure p)

  -- all that stands behind what the text begins with
  abbrev later : Tall Program → Parser Token (Tall Program)
  later p = loop (turn views room) (read views.none p) >>= λ r. pure r.program

  abbrev pub program_step : ℕ → Parser Token (Tall Program)
  program_step end = first_step (empty_program end) >>= later

  void_at : (u : Token) → is_fixed v0 w.Void u ≡ true → outer_opening (seen v0 u) ≡ o.Void
  void_at u d = rw (fixed_at v0 u w.Void d) refl

  -- what the loop does with a function that `void` begins
  void_turn : (p : Tall Program) (u : Token) (mid : List Token) → is_fixed v0 w.Void u ≡ true
      → loop (turn views room) (read views.none p) (u ∷ mid) ≡ and_then (and_then (void_added v0 room (line v0 u) p mid) (λ q. pure (read views.none q))) (loop (turn views room))
  void_turn p u mid d = loop_is (turn views room) (turn_shrinks views room) (read views.none p) u mid ∙ rw (void_at u d) refl

  declared_first : (p : Tall Program) (out : Outcome Token (Unit {0})) → and_then (and_then (and_then out (λ _. pure None)) (optional_function v0 views.holds room p)) later ≡ and_then (and_then out (λ _. pure p)) later
  declared_first p (Got x rest) = refl
  declared_first p (Failed f rest) = refl

  added_first : (out : Outcome Token (Tall Program)) → and_then out later ≡ and_then (and_then (and_then out (λ q. pure (read views.none q))) (loop (turn views room))) (λ r. pure r.program)
  added_first (Got q rest) = refl
  added_first (Failed f rest) = refl

  head_first : (p : Tall Program) (out : Outcome Token Head)
      → and_then (and_then (and_then out (λ h. pure (Some h))) (optional_function v0 views.holds room p)) later ≡ and_then (and_then (and_then (and_then out (function_added v0 room p)) (λ q. pure (read views.none q))) (loop (turn views room))) (λ r. pure r.program)
  head_first p (Got h rest) = added_first (function_added v0 room p h rest)
  head_first p (Failed f rest) = refl

  prototype_first : (u : Token) (mid : List Token) → is_fixed v0 w.Void u ≡ true → wait_prototype v0 (u ∷ mid) ≡ wait_behind_void v0 mid
  unfolding wait_prototype
  prototype_first u mid d = rw d refl

  function_first : (p : Tall Program) (u : Token) (mid : List Token) → is_fixed v0 w.Void u ≡ true
      → and_then (and_then (and_then (head_behind_void v0 (line v0 u) mid) (λ h. pure (Some h))) (optional_function v0 views.holds room p)) later ≡ later p (u ∷ mid)
  unfolding void_added
  function_first p u mid d = rw (void_turn p u mid d) (head_first p (head_behind_void v0 (line v0 u) mid))

  behind_capacities : (p : Tall Program) (mid : List Token) → and_then (void_or_wait v0 views.holds room p mid) later ≡ and_then ((wait_declared v0 >>= λ _. pure p) mid) later
  unfolding wait_declared
  behind_capacities p [] = refl
  behind_capacities p (u ∷ mid) = go (is_fixed v0 w.Void u) refl
    where
      by_word : is_fixed v0 w.Void u ≡ true → (b : Bool) → word_comes v0 mid ≡ b
          → and_then (and_then (head_or_wait v0 (line v0 u) mid) (optional_function v0 views.holds room p)) later ≡ and_then (and_then (cond b (wait_prototype v0) (pure tt) (u ∷ mid)) (λ _. pure p)) later
      by_word d true e = rw (some_wait v0 (line v0 u) mid e, prototype_first u mid d) (declared_first p (wait_behind_void v0 mid))
      by_word d false e = rw (no_wait v0 (line v0 u) mid e) (function_first p u mid d)

      go : (b : Bool) → is_fixed v0 w.Void u ≡ b → and_then (moved (when b (head_or_wait v0 (line v0 u) >>= optional_function v0 views.holds room p)) (pure p) u mid) later
          ≡ and_then (and_then (cond (cond b (word_comes v0 mid) false) (wait_prototype v0) (pure tt) (u ∷ mid)) (λ _. pure p)) later
      go false d = refl
      go true d = by_word d (word_comes v0 mid) refl

  pub one_ahead : (end : ℕ) (ts : List Token) → program_step end ts ≡ program views room end ts
  unfolding program first_part ints_added
  one_ahead end [] = refl
  one_ahead end (u ∷ mid) = go (line v0 u) (outer_opening (seen v0 u))
    where
      by : (out : Outcome Token Begun) → and_then (and_then out (finished_step v0 views.holds room (empty_program end))) later ≡ and_then (and_then out (finished v0 room (empty_program end))) later
      by (Got (begun.Cells all) rest) = refl
      by (Got (begun.Head h) rest) = refl
      by (Got (begun.Capacities c) rest) = behind_capacities (with_capacities (empty_program end) c) rest
      by (Failed f rest) = refl

      go : (l : ℕ) (x : Opening) → and_then (moved (first_step_by (empty_program end) l x) (pure (empty_program end)) u mid) later ≡ and_then (moved (first_by views room (empty_program end) l x) (pure (empty_program end)) u mid) later
      go l o.Int = by (behind_int v0 views.holds true l mid)
      go l _ = refl
