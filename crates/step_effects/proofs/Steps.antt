-- The effect of each event.
use Rattle.std.proofs.Common.{◌≡◌, ℕ, Bool, true, false, List, [], ◌∷◌, Option, Some, None, refl, subst}
use Rattle.std.specs.Prelude.{nat_lt, sum, slice_get, if◌then◌else◌}
use Rattle.std.proofs.lemmas.Bool.{ltb-true}
use Rattle.c_tree.specs.Bare as bare
use Rattle.c_tree.specs.Bare.{Stmt, Stmts, Nil, Cons, Program}
use Rattle.c_meaning.specs.declared.EventKind.{EventKind}
use Rattle.c_meaning.specs.declared.EventKind.TheVariants.{Go, Choose, Wake}
use Rattle.c_meaning.specs.declared.Event.{Event}
use Rattle.c_meaning.specs.State.{Locals, Frame, Status, NotBegun, Running, Waiting, Reacquiring, Ended, State, frame}
use Rattle.c_meaning.specs.Outcome.{Outcome, NotEnabled}
use Rattle.c_meaning.specs.Locks.{taken}
use Rattle.c_meaning.specs.Waits.{retaken, wait_ended}
use Rattle.c_meaning.specs.Step.{went, chose_on, chose, acquired_again, gone, chosen, awoken, happened, step}
use Rattle.step_effects.specs.Effects.{Is, Effect, OnDone, EachStepHasOneEffect}
use Rattle.step_effects.proofs.Acts.{has_if, acts_on, chooses_on}

module _ (p : Program) (s : State) (t : ℕ) where
  abbrev Has : Outcome → Type 0
  Has o = OnDone o (Effect p s t)

  goes_on_so : (frames : List Frame) → Is s t (Running frames) → Has (went p s t frames)
  goes_on_so [] is = tt
  goes_on_so (f ∷ more) is = acts_on p s t f.locals more f.todo is

  chooses_in : (u : ℕ) (l : Locals) (more : List Frame) (todo : Stmts) → Is s t (Running (frame l todo ∷ more)) → Has (chose_on p s t l more u todo)
  chooses_in u l more (Cons (bare.Signal cond) rest) is = chooses_on p s t u l more cond rest is
  chooses_in u l more todo is = tt

  chooses_so : (u : ℕ) (frames : List Frame) → Is s t (Running frames) → Has (chose p s t u frames)
  chooses_so u [] is = tt
  chooses_so u (f ∷ more) is = chooses_in u f.locals more f.todo is

  ends_wait : (m : ℕ) (l : Locals) (more : List Frame) (todo : Stmts) → Is s t (Reacquiring m [] (frame l todo ∷ more)) → slice_get s.owners m ≡ Some None
      → Has (wait_ended s t m l more todo)
  ends_wait m l more (Cons (bare.Wait cond place ks) rest) is free = Effect.retakes m l cond place ks rest more is free
  ends_wait m l more todo is free = tt

  retakes_so : (m : ℕ) (frames : List Frame) → Is s t (Reacquiring m [] frames) → (o : Option (Option ℕ)) → slice_get s.owners m ≡ o → Has (retaken s t m frames o)
  retakes_so m [] is (Some None) free = tt
  retakes_so m (f ∷ more) is (Some None) free = ends_wait m f.locals more f.todo is free
  retakes_so m frames is (Some (Some owner)) owned = tt
  retakes_so m frames is None none = tt

  takes_so : (m k : ℕ) (ks : List ℕ) (frames : List Frame) → Is s t (Reacquiring m (k ∷ ks) frames) → (c : Option ℕ) (row : Option (List ℕ))
      → slice_get p.monitors k ≡ c → slice_get s.tokens k ≡ row → Has (taken s t (Reacquiring m ks frames) k c row)
  takes_so m k ks frames is (Some capacity) (Some row) has there = has_if p s t (nat_lt (sum row) capacity) _ NotEnabled
      (λ free. Effect.takes_again m k ks frames row is (record { capacity = capacity; has = has; row_is = there; free = ltb-true (sum row) capacity free })) (λ full. tt)
  takes_so m k ks frames is (Some capacity) None has there = tt
  takes_so m k ks frames is None row has there = tt

  acquires_so : (m : ℕ) (ks : List ℕ) (frames : List Frame) → Is s t (Reacquiring m ks frames) → Has (acquired_again p s t m frames ks)
  acquires_so m [] frames is = retakes_so m frames is (slice_get s.owners m) refl
  acquires_so m (k ∷ ks) frames is = takes_so m k ks frames is (slice_get p.monitors k) (slice_get s.tokens k) refl refl

  by_go : (o : Option Status) → slice_get s.threads t ≡ o → Has (gone p s t o)
  by_go (Some (Running frames)) is = goes_on_so frames is
  by_go (Some (Reacquiring m ks frames)) is = acquires_so m ks frames is
  by_go (Some NotBegun) is = tt
  by_go (Some (Waiting c m frames)) is = tt
  by_go (Some Ended) is = tt
  by_go None is = tt

  by_choice : (u : ℕ) (o : Option Status) → slice_get s.threads t ≡ o → Has (chosen p s t u o)
  by_choice u (Some (Running frames)) is = chooses_so u frames is
  by_choice u (Some NotBegun) is = tt
  by_choice u (Some (Waiting c m frames)) is = tt
  by_choice u (Some (Reacquiring m ks frames)) is = tt
  by_choice u (Some Ended) is = tt
  by_choice u None is = tt

  by_waking : (o : Option Status) → slice_get s.threads t ≡ o → Has (awoken s t o)
  by_waking (Some (Waiting c m frames)) is = Effect.wakes c m frames is
  by_waking (Some NotBegun) is = tt
  by_waking (Some (Running frames)) is = tt
  by_waking (Some (Reacquiring m ks frames)) is = tt
  by_waking (Some Ended) is = tt
  by_waking None is = tt

  by_event : (kind : EventKind) → Has (happened p s t kind (slice_get s.threads t))
  by_event Go = by_go (slice_get s.threads t) refl
  by_event (Choose u) = by_choice u (slice_get s.threads t) refl
  by_event Wake = by_waking (slice_get s.threads t) refl

pub effect_of_step : (p : Program) (s : State) (e : Event) → OnDone (step p s e) (Effect p s e.thread)
effect_of_step p s e = by s.main_ended
  where
    by : (b : Bool) → OnDone (if b then NotEnabled else happened p s e.thread e.kind (slice_get s.threads e.thread)) (Effect p s e.thread)
    by true = tt
    by false = by_event p s e.thread e.kind

pub each_effect : EachStepHasOneEffect
each_effect p s e done next leads = subst (λ o. OnDone o (Effect p s e.thread)) leads (effect_of_step p s e)
