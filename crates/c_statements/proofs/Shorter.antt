-- No parser of this crate takes a token back, so the bound on the turns of its loops is never met.
use Rattle.std.proofs.Common.{◌≡◌, ℕ, zero, suc, ◌-◌, ◌≤◌, Bool, true, false, cond, List, ◌∷◌, length, Option, Some, None, arith}
use Rattle.c_lexer.specs.declared.token.Sign.TheVariants as s
use Rattle.c_tree.specs.declared.program.Kind.{Kind}
use Rattle.c_tree.specs.declared.program.Slot.{Slot}
use Rattle.c_tree.specs.Expressions.{Place}
use Rattle.c_tree.specs.Lined.{Stmt}
use Rattle.c_grammar.specs.Items.{name_of}
use Rattle.c_grammar.specs.Levels.{Tall, nothing}
use Rattle.c_grammar.specs.Statements.{Choice, Body, body_then}
use Rattle.parse_laws.specs.Parser.{Got, Parser, pure, Move, Stop, Deep, Go, deeper}
use Rattle.parse_laws.proofs.Loops.{Shrinks}
use Rattle.parse_laws.proofs.Sound.{Sound, SoundMove, stop_sound, deep_sound, go_sound, sound_map, bind_sound}
use Rattle.c_expressions.specs.Parsers.{Sight, seen, is, fits, go_named, named}
use Rattle.c_expressions.proofs.PartsShorter.{less_address}
use Rattle.c_expressions.proofs.Shorter.{Less, less_pure, less_commit, less_choice, less_when, less_deeper, less_shrinks, less_bind, less_then, less_must, less_loop, less_close, less_close_by, fewer_less, fewer_bind, fewer_choice, fewer_expression_of}
use Rattle.c_statements.specs.declared.word.Opening.{Opening}
use Rattle.c_statements.specs.declared.word.Opening.TheVariants as o
use Rattle.c_statements.specs.declared.word.Question.{Question}
use Rattle.c_statements.specs.declared.word.Question.TheVariants as question
use Rattle.c_statements.specs.declared.word.Comparison.{Comparison}
use Rattle.c_statements.specs.declared.word.Comparison.TheVariants as comparison
use Rattle.c_statements.specs.declared.word.Start.{Start}
use Rattle.c_statements.specs.declared.word.Start.TheVariants as f
use Rattle.c_statements.specs.declared.word.Thread.{Thread}
use Rattle.c_statements.specs.declared.word.Thread.TheVariants as t
use Rattle.c_simple.specs.Words.{number_of}
use Rattle.c_simple.specs.Parsers.{line, begins_simple}
use Rattle.c_statements.specs.Words.{statement_opening, asks, behind_try, first_start, thread_opening}
use Rattle.c_statements.specs.Parsers.{condition, as_value, valued, tried, compared_by, compared, plain, negated, behind_not, two_deeper, asked_by, asked, trial, declared, first_by, first, middle, last, block, arm, choice, repetition, counting, twice_deeper, simple_in, statement_in, statement_by, slot_length, length_by, slot_behind, slot, comma_by, more_slots, with_slots_by, static_threads, threads, main_by, body_by, stated_by, named_thread, is_main}
use Rattle.c_simple.proofs.Shorter.{less_simple, less_step}

module _ {Token : Type 0} (v : Sight Token) where
  less_name : {A : Type 0} {p : List ℕ → Parser Token A} (u : Token) → ((n : List ℕ) → Sound (p n) Less) → SoundMove Less (named v p u)
  less_name {p = p} u x = go (name_of (seen v u))
    where
      go : (n : Option (List ℕ)) → SoundMove Less (go_named p n)
      go None = stop_sound
      go (Some n) = go_sound (x n)

  -- ---- the parts of statements

  less_condition : (r : ℕ) → Sound (condition v r) Less
  unfolding condition
  less_condition r = less_must _ (less_bind (fewer_less (fewer_expression_of v r)) (λ e. less_close v _ _ less_pure))

  -- an expression and the `)` behind it are two tokens at least
  abbrev Shorter : List Token → List Token → Tall Choice → Type 0
  Shorter ts rest x = suc (suc (length rest)) ≤ length ts

  valued_shorter : (r : ℕ) → Sound (valued v r) Shorter
  valued_shorter r = bind_sound (fewer_expression_of v r) (λ e. sound_map (λ mid rest x h ts lt. omega (arith, h, lt)) (fewer_bind (fewer_choice (λ u. less_close_by v s.RightParenthesis (fits r e.levels) less_pure u)) (λ w. less_pure {a = as_value e})))

  pub valued_takes : (r : ℕ) (ts : List Token) (x : Tall Choice) (rest : List Token) → valued v r ts ≡ Got x rest → suc (suc (length rest)) ≤ length ts
  valued_takes r ts x rest e = (valued_shorter r).spelled ts x rest e

  less_tried : (r : ℕ) → Sound (tried v r) Less
  unfolding tried
  less_tried r = less_bind (less_address v r) (λ p. less_must _ less_pure)

  less_compared : (p : Tall Place) → Sound (compared v p) Less
  unfolding compared
  less_compared p = less_choice (λ u. go (behind_try (seen v u)))
    where
      go : (x : Comparison) → SoundMove Less (compared_by v p x)
      go comparison.End = go_sound less_pure
      go comparison.Equal = go_sound (less_must _ (less_must _ less_pure))
      go comparison.NotEqual = go_sound (less_must _ (less_must _ less_pure))
      go comparison.Other = stop_sound

  less_plain : (r : ℕ) (u : Token) → Sound (plain v r u) Less
  unfolding plain
  less_plain r u = less_commit (λ t. less_when _ (less_bind (less_tried (r - 1)) (λ p. less_compared p))) (record { spelled = λ ts x rest e. let le = valued_takes r (u ∷ ts) x rest e in omega (arith, le) })

  less_negated : (r : ℕ) (u t : Token) → Sound (negated v r u t) Less
  unfolding negated
  less_negated r u t = less_commit (λ w. less_when _ (less_bind (less_tried (r - 2)) (λ p. less_must _ less_pure))) (record { spelled = λ ts x rest e. let le = valued_takes r (u ∷ t ∷ ts) x rest e in omega (arith, le) })

  less_behind_not : (r : ℕ) (u : Token) → Sound (behind_not v r u) Less
  unfolding behind_not
  less_behind_not r u = less_commit (λ t. less_when _ (less_negated r u t)) (record { spelled = λ ts x rest e. let le = valued_takes r (u ∷ ts) x rest e in omega (arith, le) })

  less_two : {A : Type 0} {p : Parser Token A} (r : ℕ) → Sound p Less → SoundMove Less (two_deeper p r)
  less_two zero h = deep_sound
  less_two (suc zero) h = deep_sound
  less_two (suc (suc r)) h = go_sound h

  less_asked : (r : ℕ) → Sound (asked v r) Less
  unfolding asked
  less_asked r = less_commit (λ u. go u (asks (seen v u))) (record { spelled = λ ts x rest e. let le = valued_takes r ts x rest e in omega (arith, le) })
    where
      go : (u : Token) (x : Question) → SoundMove Less (asked_by v r u x)
      go u question.TryLock = less_deeper r (λ m e. less_plain r u)
      go u question.Not = less_two r (less_behind_not r u)
      go u question.Expression = stop_sound

  less_trial : (r : ℕ) → Sound (trial v r) Less
  unfolding trial
  less_trial r = less_must _ (less_asked r)

  less_declared : (r : ℕ) → Sound (declared v r) Less
  unfolding declared
  less_declared r = less_choice (λ u. less_name u (λ n. less_must _ (less_bind (fewer_less (fewer_expression_of v r)) (λ e. less_close v _ _ less_pure))))

  less_first : (r : ℕ) → Sound (first v r) Less
  unfolding first
  less_first r = less_choice (λ u. go u (first_start (seen v u)))
    where
      go : (u : Token) (x : Start) → SoundMove Less (first_by v r u x)
      go u f.Nothing = go_sound less_pure
      go u f.Int = less_deeper r (λ m e. less_declared r)
      go u f.Step = less_step v s.Semicolon r u

  less_test : (r : ℕ) → Sound (middle v r) Less
  unfolding middle
  less_test r = less_commit (λ u. less_when _ less_pure) (less_bind (fewer_less (fewer_expression_of v r)) (λ e. less_close v _ _ less_pure))

  less_last : (r : ℕ) → Sound (last v r) Less
  unfolding last
  less_last r = less_choice (λ u. go u (is v s.RightParenthesis u) (less_step v s.RightParenthesis r u))
    where
      go : (u : Token) (b : Bool) {m : Move Token (Tall (List Stmt))} → SoundMove Less m → SoundMove Less (cond b (Go (pure nothing)) m)
      go u true x = go_sound less_pure
      go u false x = x

  -- ---- statements

  module _ (lower : Token → Move Token (Tall (List Stmt))) (h : (u : Token) → SoundMove Less (lower u)) where
    less_block : Sound (block v lower) Less
    unfolding block
    less_block = less_bind (less_loop (λ all u. less_then (h u) (λ x. less_pure)) nothing) (λ all. less_must _ less_pure)

    less_arm : Sound (arm v lower) Less
    unfolding arm
    less_arm = less_choice (λ u. go u (is v s.LeftBrace u))
      where
        go : (u : Token) (b : Bool) → SoundMove Less (cond b (Go (block v lower)) (lower u))
        go u true = go_sound less_block
        go u false = h u

    less_choice_of : (r line : ℕ) → Sound (choice v r lower line) Less
    unfolding choice
    less_choice_of r line = less_bind (less_trial r) (λ e. less_bind less_arm (λ one. less_commit (λ u. less_when _ (less_bind less_arm (λ two. less_pure))) less_pure))

    less_repetition : (r line : ℕ) → Sound (repetition v r lower line) Less
    unfolding repetition
    less_repetition r line = less_bind (less_condition r) (λ e. less_bind less_arm (λ body. less_pure))

    less_counting : (r line : ℕ) → Sound (counting v r lower line) Less
    unfolding counting
    less_counting r line = less_must _ (less_bind (less_first r) (λ one. less_bind (less_test r) (λ e. less_bind (less_last r) (λ two. less_bind less_arm (λ body. less_pure)))))

  less_twice : {A : Type 0} {p : ℕ → Parser Token A} (room : ℕ) → ((r : ℕ) → Sound (p r) Less) → SoundMove Less (twice_deeper p room)
  less_twice zero h = deep_sound
  less_twice (suc zero) h = deep_sound
  less_twice (suc (suc r)) h = go_sound (h (suc r))

  less_once : {A : Type 0} {p : ℕ → Parser Token A} (room : ℕ) → ((r : ℕ) → Sound (p r) Less) → SoundMove Less (deeper p room)
  less_once zero h = deep_sound
  less_once (suc r) h = go_sound (h r)

  less_simple_in : (kind : Kind) (room : ℕ) (u : Token) → SoundMove Less (simple_in v kind room u)
  less_simple_in kind zero u = go (begins_simple v u)
    where
      go : (b : Bool) → SoundMove {Token = Token} {A = Tall (List Stmt)} Less (cond b Deep Stop)
      go true = deep_sound
      go false = stop_sound
  less_simple_in kind (suc r) u = less_simple v kind r u

  less_in : (kind : Kind) (room : ℕ) (lower : Token → Move Token (Tall (List Stmt))) → ((u : Token) → SoundMove Less (lower u)) → (u : Token) (x : Opening) → SoundMove Less (statement_in v kind room lower u x)
  less_in kind room lower h u o.Empty = go_sound less_pure
  less_in kind room lower h u o.If = less_twice room (λ r. less_choice_of lower h r (line v u))
  less_in kind room lower h u o.While = less_twice room (λ r. less_repetition lower h r (line v u))
  less_in kind room lower h u o.For = less_once room (λ r. less_counting lower h r (line v u))
  less_in kind room lower h u o.Simple = less_simple_in kind room u

  pub less_statement : (kind : Kind) (room : ℕ) (u : Token) → SoundMove Less (statement_by v kind room u)
  unfolding statement_by
  less_statement kind zero u = less_in kind zero (λ _. Stop) (λ _. stop_sound) u (statement_opening (seen v u))
  less_statement kind (suc r) u = less_in kind (suc r) (statement_by v kind r) (less_statement kind r) u (statement_opening (seen v u))

  pub statement_shrinks : (kind : Kind) (room : ℕ) (u : Token) → Shrinks (statement_by v kind room u)
  statement_shrinks kind room u = less_shrinks (less_statement kind room u)

  -- ---- threads

  less_slot_length : (line : ℕ) (n : List ℕ) → Sound (slot_length v line n) Less
  unfolding slot_length
  less_slot_length line n = less_choice (λ u. go (number_of (seen v u)))
    where
      go : (k : Option ℕ) → SoundMove Less (length_by v line n k)
      go None = stop_sound
      go (Some len) = go_sound (less_must _ less_pure)

  less_slot_behind : (line : ℕ) (n : List ℕ) → Sound (slot_behind v line n) Less
  unfolding slot_behind
  less_slot_behind line n = less_commit (λ u. less_when _ (less_slot_length line n)) less_pure

  less_slot : Sound (slot v) Less
  unfolding slot
  less_slot = less_choice (λ u. less_name u (λ n. less_slot_behind _ n))

  less_comma : (u : Token) → SoundMove Less (comma_by v u)
  less_comma u = less_when _ less_slot

  pub comma_shrinks : (u : Token) → Shrinks (comma_by v u)
  comma_shrinks u = less_shrinks (less_comma u)

  less_more_slots : (all : List Slot) → Sound (more_slots v all) Less
  unfolding more_slots
  less_more_slots all = less_bind (less_loop (λ b u. less_then (less_comma u) (λ x. less_pure)) all) (λ all. less_must _ less_pure)

  -- ---- bodies

  less_with_slots : (b : Tall Body) (u : Token) → SoundMove Less (with_slots_by v b u)
  less_with_slots b u = less_name u (λ n. less_bind (less_bind (less_slot_behind _ n) (λ x. less_more_slots _)) (λ all. less_pure))

  less_static : (b : Tall Body) → Sound (static_threads v b) Less
  unfolding static_threads
  less_static b = less_must _ (less_choice (less_with_slots b))

  less_stated : (kind : Kind) (room : ℕ) (b : Tall Body) (u : Token) → SoundMove Less (stated_by v kind room b u)
  less_stated kind room b u = less_then (less_statement kind room u) (λ x. less_pure)

  -- a statement that begins with a token takes that token
  less_named_thread : (kind : Kind) (room : ℕ) (b : Tall Body) (u : Token) → Sound (named_thread v kind room b u) Less
  less_named_thread kind room b u = record { spelled = λ ts a rest e. let le = (fewer_bind (fewer_choice (less_statement kind room)) (λ x. less_pure {a = body_then b x})).spelled (u ∷ ts) a rest e in omega (arith, le) }

  less_threads : (kind : Kind) (room : ℕ) (b : Tall Body) (u : Token) → Sound (threads v kind room b u) Less
  unfolding threads
  less_threads kind room b u = less_commit (less_with_slots b) (less_named_thread kind room b u)

  less_main : (kind : Kind) (room : ℕ) (b : Tall Body) (u : Token) (x : Thread) → SoundMove Less (main_by v kind room b u x)
  less_main kind room b u t.Static = less_when _ (less_static b)
  less_main kind room b u t.Type = go_sound (less_threads kind room b u)
  less_main kind room b u t.Other = less_stated kind room b u

  less_body : (kind : Kind) (room : ℕ) (b : Tall Body) (u : Token) → SoundMove Less (body_by v kind room b u)
  less_body kind room b u = go (is_main kind)
    where
      go : (c : Bool) → SoundMove Less (cond c (main_by v kind room b u (thread_opening (seen v u))) (stated_by v kind room b u))
      go true = less_main kind room b u (thread_opening (seen v u))
      go false = less_stated kind room b u

  pub body_shrinks : (kind : Kind) (room : ℕ) (b : Tall Body) (u : Token) → Shrinks (body_by v kind room b u)
  body_shrinks kind room b u = less_shrinks (less_body kind room b u)
