-- What holds at the start, and what each effect keeps, holds in each reached state.
use Rattle.std.proofs.Common.{◌≡◌, ℕ, List, [], ◌∷◌, Option, Some, None, refl, sym, ◌∙◌, subst}
use Rattle.std.specs.Prelude.{ℤ, slice_get, option_and_then}
use Rattle.std.proofs.lemmas.Option.{same_Some}
use Rattle.c_tree.specs.Bare.{Program}
use Rattle.c_meaning.specs.declared.Event.{Event}
use Rattle.c_meaning.specs.State.{Status, State, start}
use Rattle.c_meaning.specs.Outcome.{Outcome, NotEnabled, Undefined, Done}
use Rattle.c_meaning.specs.Step.{step}
use Rattle.c_meaning.specs.Run.{then_on, run, Reached}
use Rattle.run_laws.specs.Runs as system
use Rattle.run_laws.proofs.Runs.{invariant_holds}
use Rattle.step_effects.specs.Turns.{IfAny, EachTurns}
use Rattle.step_effects.specs.Effects.{Effect, OnDone}
use Rattle.step_effects.proofs.Steps.{effect_of_step}

-- the state that an event leads to, where it is done
abbrev pub led : Program → Event → State → Option State
led p e s = then_on (step p s e) Some

pub runs_so : (p : Program) (events : List Event) (s : State) → run p events s ≡ system.run (led p) events s
runs_so p [] s = refl
runs_so p (e ∷ events) s = by (step p s e) (runs_so p events)
  where
    by : (o : Outcome) → ((mid : State) → run p events mid ≡ system.run (led p) events mid) → then_on o (run p events) ≡ option_and_then (system.run (led p) events) (then_on o Some)
    by NotEnabled more = refl
    by Undefined more = refl
    by (Done did mid) more = more mid

on_led : (P : State → Type 0) (o : Outcome) (next : State) → then_on o Some ≡ Some next → OnDone o P → P next
on_led P NotEnabled next e h = absurd (cc e)
on_led P Undefined next e h = absurd (cc e)
on_led P (Done did mid) next e h = subst P (same_Some mid next e) h

pub keeps_in_reached : (p : Program) (holds : State → Type 0) → ((s : State) (t : ℕ) (next : State) → Effect p s t next → holds s → holds next)
    → (input : List ℤ) (s : State) → holds (start p input) → Reached p input s → holds s
keeps_in_reached p holds kept input s first r =
    invariant_holds (led p) holds (λ e old next leads h. kept old e.thread next (on_led (Effect p old e.thread) (step p old e) next leads (effect_of_step p old e)) h)
    r.events (start p input) s (sym (runs_so p r.events (start p input)) ∙ r.reached) first

-- a fact of what each thread does
abbrev pub EachIs : (Status → Type 0) → State → Type 0
EachIs Q s = (u : ℕ) (x : Status) → slice_get s.threads u ≡ Some x → Q x

turned : (R : Status → Status → Type 0) (Q : Status → Type 0) → ((x y : Status) → R x y → Q x → Q y) → (o : Option Status) (y : Status) → IfAny R o (Some y) → ((x : Status) → o ≡ Some x → Q x) → Q y
turned R Q kept None y turn h = absurd turn
turned R Q kept (Some x) y turn h = kept x y turn (h x refl)

-- of one thread
pub keeps_one : (R : Status → Status → Type 0) (Q : Status → Type 0) → ((x y : Status) → R x y → Q x → Q y) → (s next : State) → EachTurns R s next
    → (u : ℕ) → ((x : Status) → slice_get s.threads u ≡ Some x → Q x) → (y : Status) → slice_get next.threads u ≡ Some y → Q y
keeps_one R Q kept s next turns u holds y there =
    turned R Q kept (slice_get s.threads u) y (subst (IfAny R (slice_get s.threads u)) there (turns u)) holds

pub keeps_each : (R : Status → Status → Type 0) (Q : Status → Type 0) → ((x y : Status) → R x y → Q x → Q y) → (s next : State) → EachTurns R s next → EachIs Q s → EachIs Q next
keeps_each R Q kept s next turns each u = keeps_one R Q kept s next turns u (each u)
