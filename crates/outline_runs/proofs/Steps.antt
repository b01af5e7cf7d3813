-- Each step moves each thread along its outline, or leaves it.
use Rattle.std.proofs.Common.{◌≡◌, ℕ, ◌<◌, Bool, true, false, List, [], ◌∷◌, map, Option, Some, None, refl, subst, inl, inr, arith}
use Rattle.std.specs.Prelude.{slice_get, slice_set, if◌then◌else◌}
use Rattle.std.proofs.lemmas.Option.{slice_get_within}
use Rattle.c_tree.specs.Bare as bare
use Rattle.c_tree.specs.Everywhere.{Everywhere}
use Rattle.c_tree.specs.Numbering.{thread_count, monitor_resource}
use Rattle.c_tree.specs.Lined.{Stmts, Nil, Cons, Signal, bare_stmts}
use Rattle.c_meaning.specs.declared.EventKind.{EventKind}
use Rattle.c_meaning.specs.declared.EventKind.TheVariants.{Go, Choose, Wake}
use Rattle.c_meaning.specs.declared.Event.{Event}
use Rattle.c_meaning.specs.State.{Locals, Frame, Status, NotBegun, Running, Waiting, Reacquiring, Ended, State, frame, goes_on}
use Rattle.c_meaning.specs.Outcome.{Outcome, NotEnabled}
use Rattle.c_meaning.specs.Places.{condition_at}
use Rattle.c_meaning.specs.Waits.{takes_of, acquires_again, retaken, wait_ended}
use Rattle.c_meaning.specs.Step.{acted_on, went, chose_on, chose, acquired_again, gone, chosen, awoken, happened, step}
use Rattle.outlines.specs.Outline as outline
use Rattle.outlines.specs.Outline.{Parts}
use Rattle.outlines.specs.Moves.{Position, At, Asleep, Woken}
use Rattle.contexts.specs.Outlined.{Code}
use Rattle.contexts.specs.Quiet.{IsQuiet}
use Rattle.contexts.specs.Shape.{Shape}
use Rattle.contexts.proofs.Names.{without_weaker}
use Rattle.step_effects.specs.Effects.{OnDone}
use Rattle.reached_states.specs.Lengths.{HasLengths}
use Rattle.outline_runs.specs.Standing.{BehindWait, OverQuietCall, Stands, Sleeps, StandsIf, Standing}
use Rattle.outline_runs.proofs.Holdings.{locked_more}
use Rattle.outline_runs.proofs.Goings.{Moved, plainly, reacquires}
use Rattle.outline_runs.proofs.Ready.{moves}
use Rattle.outline_runs.proofs.Wakings.{signalled_to_ready}
use Rattle.outline_runs.proofs.Acts.{taken_here}
use Rattle.outline_runs.proofs.Here.{Here, shape_of, here_of, step_to, behind}
use Rattle.outline_runs.proofs.Chains.{chain_acted}
use Rattle.outline_runs.proofs.Quiets.{quiet_acted}
use Rattle.outline_runs.proofs.Fits.{Fits}

module _ (code : Code) (bodies : ℕ → Parts) (fits : Fits code bodies) (s : State) (t : ℕ) (at : ℕ → Position) (standing : Standing code s at) (lengths : HasLengths code.program s) where
  abbrev Has : Outcome → Type 0
  Has o = OnDone o (Moved code bodies s at)

  within : (status : Status) → slice_get s.threads t ≡ Some status → t < thread_count code.program
  within status is = let below = slice_get_within s.threads t status is in let many = lengths.threads in omega (arith, below, many)

  -- ---- a running thread acts

  went_moves : t < thread_count code.program → (frames : List Frame) (left : List Parts) → at t ≡ At left → Stands code frames left → Has (went code.program s t frames)
  went_moves below [] left is there = absurd there
  went_moves below (f ∷ fs) left is (inl c) =
      subst (λ todo. Has (acted_on code.program s t f.locals fs todo)) c.newest.todo_is
      (chain_acted code bodies fits s t at standing f.locals fs lengths below c.newest.left (here_of code t at f fs left is c) (shape_of code c.writes f.locals f.todo c.xs c.newest).shape)
  went_moves below (f ∷ fs) left is (inr q) = quiet_acted code bodies s t at standing fits f.locals fs left is q.1 q.2 f.todo q.0

  -- ---- a woken thread takes its mutex again

  retaken_moves : (m : ℕ) (frames : List Frame) (left : List Parts) → at t ≡ Woken m [] left → Sleeps code frames left → Has (retaken s t m frames (slice_get s.owners m))
  retaken_moves m [] left is there = absurd there
  retaken_moves m (f ∷ fs) [] is there = absurd there
  retaken_moves m (f ∷ fs) (xs ∷ lefts) is there = by (slice_get s.owners m) refl
    where
      go : slice_get s.owners m ≡ Some None → (locals : Locals) (todo : bare.Stmts) → BehindWait code locals todo xs → Has (wait_ended s t m locals fs todo)
      go e locals (bare.Cons (bare.Wait cond place takes) rest) after =
          let next : State = record (goes_on s t (frame locals rest ∷ fs)) { owners = slice_set s.owners m (Some t) } in
          reacquires code bodies s t at standing next (Running (frame locals rest ∷ fs)) (Woken m [] (xs ∷ lefts)) (At (xs ∷ lefts)) m refl
          (xs ∷ lefts, refl, inl (record { writes = after.0; xs = xs; lefts = lefts; left_is = refl; newest = after.1; callers = there.1 })) is (refl, refl)
          (locked_more code.program s lengths t m next e refl refl)
      go e locals todo after = absurd after

      by : (o : Option (Option ℕ)) → slice_get s.owners m ≡ o → Has (retaken s t m (f ∷ fs) o)
      by None e = tt
      by (Some (Some owner)) e = tt
      by (Some None) e = go e f.locals f.todo there.0

  again_moves : t < thread_count code.program → (m : ℕ) (frames : List Frame) (takes : List ℕ) (left : List Parts) → at t ≡ Woken m (map (monitor_resource code.program) takes) left → Sleeps code frames left
      → Has (acquired_again code.program s t m frames takes)
  again_moves below m frames [] left is there = retaken_moves m frames left is there
  again_moves below m frames (k ∷ takes) left is there =
      taken_here code bodies s t at standing lengths below (Reacquiring m takes frames) k (Woken m (map (monitor_resource code.program) (k ∷ takes)) left)
      (Woken m (map (monitor_resource code.program) takes) left) is (refl, refl) (left, refl, there) (slice_get code.program.monitors k)

  gone_moves : (o : Option Status) → slice_get s.threads t ≡ o → StandsIf code o (at t) → Has (gone code.program s t o)
  gone_moves None e there = tt
  gone_moves (Some NotBegun) e there = tt
  gone_moves (Some Ended) e there = tt
  gone_moves (Some (Waiting c m frames)) e there = tt
  gone_moves (Some (Running frames)) e there = went_moves (within (Running frames) e) frames there.0 there.1 there.2
  gone_moves (Some (Reacquiring m takes frames)) e there = again_moves (within (Reacquiring m takes frames) e) m frames takes there.0 there.1 there.2

  -- ---- a signal wakes a chosen thread

  chain_chose : (u : ℕ) (locals : Locals) (more : List Frame) (left : Stmts) (h : Here code t at locals more left) → Shape code h.writes h.known (Some h.end_line) left h.xs
      → Has (chose_on code.program s t locals more u (bare_stmts left))
  chain_chose u locals more Nil h shape = tt
  chain_chose u locals more (Cons (Signal line cond) rest) h shape =
      let there = shape.1 in
      signalled_to_ready code bodies s t at standing _ (moves code bodies s t at standing locals (bare_stmts rest) more
      (step_to code t at locals more (Cons (Signal line cond) rest) h bodies locals (outline.Step line) there.0 there.0 (bare_stmts rest) there.1 (refl, refl)
      (behind code t at locals more (Cons (Signal line cond) rest) h _ (without_weaker [] h.known) rest there.0 there.2)))
      u (condition_at code.program s locals cond)
  chain_chose u locals more (Cons act rest) h shape = tt

  quiet_chose : (u : ℕ) (locals : Locals) (more : List Frame) (todo : bare.Stmts) (left : List Parts) → at t ≡ At left → Everywhere (IsQuiet code) todo → OverQuietCall code more → Stands code more left
      → Has (chose_on code.program s t locals more u todo)
  quiet_chose u locals more (bare.Cons (bare.Signal cond) rest) left is q over below =
      signalled_to_ready code bodies s t at standing _ (moves code bodies s t at standing locals rest more (inr (record { left = left; is = is; quiet = q.2; over = over; below = below })))
      u (condition_at code.program s locals cond)
  quiet_chose u locals more todo left is q over below = tt

  chose_moves : (u : ℕ) (frames : List Frame) (left : List Parts) → at t ≡ At left → Stands code frames left → Has (chose code.program s t u frames)
  chose_moves u [] left is there = tt
  chose_moves u (f ∷ fs) left is (inl c) =
      subst (λ todo. Has (chose_on code.program s t f.locals fs u todo)) c.newest.todo_is
      (chain_chose u f.locals fs c.newest.left (here_of code t at f fs left is c) (shape_of code c.writes f.locals f.todo c.xs c.newest).shape)
  chose_moves u (f ∷ fs) left is (inr q) = quiet_chose u f.locals fs f.todo left is q.0 q.1 q.2

  chosen_moves : (u : ℕ) (o : Option Status) → StandsIf code o (at t) → Has (chosen code.program s t u o)
  chosen_moves u None there = tt
  chosen_moves u (Some NotBegun) there = tt
  chosen_moves u (Some Ended) there = tt
  chosen_moves u (Some (Waiting c m frames)) there = tt
  chosen_moves u (Some (Reacquiring m takes frames)) there = tt
  chosen_moves u (Some (Running frames)) there = chose_moves u frames there.0 there.1 there.2

  -- ---- a thread wakes

  awoken_moves : (o : Option Status) → StandsIf code o (at t) → Has (awoken s t o)
  awoken_moves None there = tt
  awoken_moves (Some NotBegun) there = tt
  awoken_moves (Some Ended) there = tt
  awoken_moves (Some (Running frames)) there = tt
  awoken_moves (Some (Reacquiring m takes frames)) there = tt
  awoken_moves (Some (Waiting c m frames)) there =
      let takes : List ℕ = map (monitor_resource code.program) (takes_of frames) in
      plainly code bodies s t at standing (acquires_again m frames) (Asleep m takes there.0) (Woken m takes there.0) (there.0, refl, there.2) there.1 (refl, refl)

  happened_moves : (kind : EventKind) → Has (happened code.program s t kind (slice_get s.threads t))
  happened_moves Go = gone_moves (slice_get s.threads t) refl (standing t)
  happened_moves (Choose u) = chosen_moves u (slice_get s.threads t) (standing t)
  happened_moves Wake = awoken_moves (slice_get s.threads t) (standing t)

pub each_step_moves : (code : Code) (bodies : ℕ → Parts) → Fits code bodies → (s : State) (at : ℕ → Position) → Standing code s at → HasLengths code.program s → (e : Event)
    → OnDone (step code.program s e) (Moved code bodies s at)
each_step_moves code bodies fits s at standing lengths e = by s.main_ended
  where
    by : (b : Bool) → OnDone (if b then NotEnabled else happened code.program s e.thread e.kind (slice_get s.threads e.thread)) (Moved code bodies s at)
    by true = tt
    by false = happened_moves code bodies fits s e.thread at standing lengths e.kind
