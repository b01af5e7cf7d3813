-- Why an event is undefined.
use Rattle.std.proofs.Common.{◌≡◌, ℕ, ◌<◌, ◌≤◌, Bool, true, false, List, [], ◌∷◌, length, Option, Some, None, refl, subst}
use Rattle.std.specs.Prelude.{ℤ, Contains, slice_get, if◌then◌else◌}
use Rattle.std.proofs.lemmas.List.Elements.{Contains-append_right, Contains-append_left, Contains-push}
use Rattle.c_tree.specs.Expressions.{Expr, Place}
use Rattle.c_tree.specs.Bare as bare
use Rattle.c_tree.specs.Bare.{Stmts, Cons, Program}
use Rattle.c_tree.specs.Numbering.{mutex_count, thread_in}
use Rattle.c_meaning.specs.declared.EventKind.{EventKind}
use Rattle.c_meaning.specs.declared.EventKind.TheVariants.{Go, Choose, Wake}
use Rattle.c_meaning.specs.declared.Event.{Event}
use Rattle.c_meaning.specs.State.{Locals, Frame, Status, NotBegun, Running, Waiting, Reacquiring, Ended, State, frame}
use Rattle.c_meaning.specs.Outcome.{Outcome, NotEnabled}
use Rattle.c_meaning.specs.Waits.{retaken, wait_ended, wait_ended_in, first_takes, takes_of}
use Rattle.c_meaning.specs.Step.{went, chose_on, chose, acquired_again, gone, chosen, awoken, happened, step}
use Rattle.c_meaning.specs.Run.{Reached}
use Rattle.step_effects.specs.Effects.{Is}
use Rattle.step_effects.specs.Todos.{HoldsInFrames, HoldsInStatus}
use Rattle.step_effects.proofs.Todos.{holds_in_todos}
use Rattle.reached_states.specs.Lengths.{cell_count, HasLengths}
use Rattle.reached_states.specs.Standing.{AtWait, WaitsIn, IsStack, IsLeftOf, Stands}
use Rattle.reached_states.proofs.Lengths.{reached_have_lengths, reached_have_cells}
use Rattle.reached_states.proofs.Standing.{reached_stand}
use Rattle.reached_states.proofs.Creating.{creates_are_fresh}
use Rattle.undefined_steps.specs.Causes.{Cause}
use Rattle.undefined_steps.specs.Proper.{IsProper, IsProperProgram}
use Rattle.undefined_steps.specs.Laws.{UndefinedHasCause}
use Rattle.undefined_steps.proofs.Outcomes.{IfUndefined, takes}
use Rattle.undefined_steps.proofs.Acts.{owner_there, row_there, capacity_there, acts_on, chooses_on}

-- ---- what a thread has still to take is among the takes of its wait

first_left : (k : ℕ) (ks all : List ℕ) → IsLeftOf (k ∷ ks) all → Contains all k
first_left k ks all left =
    subst (λ xs. Contains xs k) left.1 (Contains-append_right left.0 (k ∷ ks) k (Contains-append_left (k ∷ []) ks k (Contains-push [] k)))

module _ (p : Program) (s : State) (t : ℕ) (lengths : HasLengths p s) (cells : cell_count p ≤ length s.cells)
    (fresh : (l : Locals) (slot : Place) (name : List ℕ) (arg : Expr) (rest : Stmts) (more : List Frame) → Is s t (Running (frame l (Cons (bare.Create slot name arg) rest) ∷ more))
    → (u : ℕ) × (thread_in p slot ≡ Some u) × Is s u NotBegun) where
  abbrev Why : Outcome → Type 0
  Why o = IfUndefined o (Cause p s t)

  why_went : (frames : List Frame) → Is s t (Running frames) → IsStack frames → HoldsInFrames (IsProper p) frames → Why (went p s t frames)
  why_went [] is stack proper = absurd stack
  why_went (f ∷ more) is stack proper = acts_on p s t lengths cells f.locals more f.todo is stack proper (λ slot name arg rest here. fresh f.locals slot name arg rest more here)

  why_chose_on : (u : ℕ) (l : Locals) (more : List Frame) (todo : Stmts) → Is s t (Running (frame l todo ∷ more)) → HoldsInFrames (IsProper p) (frame l todo ∷ more) → Why (chose_on p s t l more u todo)
  why_chose_on u l more (Cons (bare.Signal cond) rest) is proper = chooses_on p s t lengths cells u l more cond rest is proper.0.0
  why_chose_on u l more todo is proper = tt

  why_chose : (u : ℕ) (frames : List Frame) → Is s t (Running frames) → HoldsInFrames (IsProper p) frames → Why (chose p s t u frames)
  why_chose u [] is proper = tt
  why_chose u (f ∷ more) is proper = why_chose_on u f.locals more f.todo is proper

  why_ended : (m : ℕ) (l : Locals) (more : List Frame) (todo : Stmts) → AtWait todo → Why (wait_ended s t m l more todo)
  why_ended m l more (Cons (bare.Wait cond place ks) rest) at = tt
  why_ended m l more todo at = absurd at

  why_ended_in : (m : ℕ) (frames : List Frame) → WaitsIn frames → Why (wait_ended_in s t m frames)
  why_ended_in m [] at = absurd at
  why_ended_in m (f ∷ more) at = why_ended m f.locals more f.todo at

  why_retaken : (m : ℕ) (frames : List Frame) → m < mutex_count p → WaitsIn frames → (o : Option (Option ℕ)) → slice_get s.owners m ≡ o → Why (retaken s t m frames o)
  why_retaken m frames below at (Some None) e = why_ended_in m frames at
  why_retaken m frames below at (Some (Some owner)) e = tt
  why_retaken m frames below at None e = absurd (owner_there p s t lengths cells m below e)

  -- a token that a wait takes is of a monitor that is there
  taken_below : (k : ℕ) (ks : List ℕ) (todo : Stmts) (more : List Frame) (l : Locals) → AtWait todo → HoldsInFrames (IsProper p) (frame l todo ∷ more) → IsLeftOf (k ∷ ks) (first_takes todo) → k < length p.monitors
  taken_below k ks (Cons (bare.Wait cond place all) rest) more l at proper left = proper.0.0.2 k (first_left k ks all left)
  taken_below k ks todo more l at proper left = absurd at

  taken_in : (k : ℕ) (ks : List ℕ) (frames : List Frame) → WaitsIn frames → HoldsInFrames (IsProper p) frames → IsLeftOf (k ∷ ks) (takes_of frames) → k < length p.monitors
  taken_in k ks [] at proper left = absurd at
  taken_in k ks (f ∷ more) at proper left = taken_below k ks f.todo more f.locals at proper left

  why_acquired : (m : ℕ) (ks : List ℕ) (frames : List Frame) → Stands p (Reacquiring m ks frames) → HoldsInFrames (IsProper p) frames → Why (acquired_again p s t m frames ks)
  why_acquired m [] frames stands proper = why_retaken m frames stands.0 stands.1 (slice_get s.owners m) refl
  why_acquired m (k ∷ ks) frames stands proper =
      let below = taken_in k ks frames stands.1 proper stands.3 in
      takes (Cause p s t) s t (Reacquiring m ks frames) k (slice_get p.monitors k) (slice_get s.tokens k)
      (λ none. absurd (capacity_there p s t lengths cells k below none)) (λ none. absurd (row_there p s t lengths cells k below none))

  module _ (stands : (x : Status) → Is s t x → Stands p x) (proper : (x : Status) → Is s t x → HoldsInStatus (IsProper p) x) where
    why_gone : (o : Option Status) → slice_get s.threads t ≡ o → Why (gone p s t o)
    why_gone (Some (Running frames)) is = why_went frames is (stands (Running frames) is) (proper (Running frames) is)
    why_gone (Some (Reacquiring m ks frames)) is = why_acquired m ks frames (stands (Reacquiring m ks frames) is) (proper (Reacquiring m ks frames) is)
    why_gone (Some NotBegun) is = tt
    why_gone (Some (Waiting c m frames)) is = tt
    why_gone (Some Ended) is = tt
    why_gone None is = tt

    why_chosen : (u : ℕ) (o : Option Status) → slice_get s.threads t ≡ o → Why (chosen p s t u o)
    why_chosen u (Some (Running frames)) is = why_chose u frames is (proper (Running frames) is)
    why_chosen u (Some NotBegun) is = tt
    why_chosen u (Some (Waiting c m frames)) is = tt
    why_chosen u (Some (Reacquiring m ks frames)) is = tt
    why_chosen u (Some Ended) is = tt
    why_chosen u None is = tt

    why_awoken : (o : Option Status) → slice_get s.threads t ≡ o → Why (awoken s t o)
    why_awoken (Some (Waiting c m frames)) is = tt
    why_awoken (Some NotBegun) is = tt
    why_awoken (Some (Running frames)) is = tt
    why_awoken (Some (Reacquiring m ks frames)) is = tt
    why_awoken (Some Ended) is = tt
    why_awoken None is = tt

    why_happened : (kind : EventKind) → Why (happened p s t kind (slice_get s.threads t))
    why_happened Go = why_gone (slice_get s.threads t) refl
    why_happened (Choose u) = why_chosen u (slice_get s.threads t) refl
    why_happened Wake = why_awoken (slice_get s.threads t) refl

why_step : (p : Program) (input : List ℤ) (s : State) (e : Event) → IsProperProgram p → Reached p input s → IfUndefined (step p s e) (Cause p s e.thread)
why_step p input s e proper r = by s.main_ended
  where
    by : (b : Bool) → IfUndefined (if b then NotEnabled else happened p s e.thread e.kind (slice_get s.threads e.thread)) (Cause p s e.thread)
    by true = tt
    by false = why_happened p s e.thread (reached_have_lengths p input s r) (reached_have_cells p input s r)
        (λ l slot name arg rest more is. creates_are_fresh p input s e.thread l slot name arg rest more proper.creates r is)
        (reached_stand p input s r e.thread) (holds_in_todos p (IsProper p) proper.statements input s r e.thread) e.kind

pub undefined_has_cause : UndefinedHasCause
undefined_has_cause p input s e proper r undefined = subst (λ o. IfUndefined o (Cause p s e.thread)) undefined (why_step p input s e proper r)
