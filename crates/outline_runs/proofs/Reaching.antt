-- Where threads stand in reached states.
use Rattle.std.proofs.Common.{◌≡◌, ℕ, List, [], Some, refl, sym, ◌∙◌, subst}
use Rattle.std.specs.Prelude.{ℤ}
use Rattle.std.proofs.lemmas.Option.{same_Some}
use Rattle.c_tree.specs.Lined.{Program, bare_program}
use Rattle.c_meaning.specs.declared.Event.{Event}
use Rattle.c_meaning.specs.State.{State, start}
use Rattle.c_meaning.specs.Outcome.{Outcome, NotEnabled, Undefined, Done}
use Rattle.c_meaning.specs.Step.{step}
use Rattle.c_meaning.specs.Run.{then_on, Reached}
use Rattle.outlines.specs.Outline.{Thread}
use Rattle.outlines.specs.Moves.{Position}
use Rattle.contexts.specs.Threads.{code_of}
use Rattle.run_laws.proofs.Runs.{invariant_holds}
use Rattle.step_effects.specs.Effects.{Effect, OnDone}
use Rattle.step_effects.proofs.Steps.{effect_of_step}
use Rattle.step_effects.proofs.Reaching.{led, runs_so}
use Rattle.reached_states.specs.Lengths.{HasLengths}
use Rattle.reached_states.proofs.Lengths.{keeps_lengths, reached_have_lengths}
use Rattle.outline_runs.specs.Standing.{Standing}
use Rattle.outline_runs.specs.Moving.{body_of, first_position}
use Rattle.outline_runs.specs.Laws.{HasOutlines, StepsMoveThreads, ReachedThreadsStand}
use Rattle.outline_runs.proofs.Goings.{Moved}
use Rattle.outline_runs.proofs.Fits.{fits}
use Rattle.outline_runs.proofs.Steps.{each_step_moves}
use Rattle.outline_runs.proofs.Starts.{threads_start}

on_led : (P : State → Type 0) (o : Outcome) (next : State) → then_on o Some ≡ Some next → OnDone o P → P next
on_led P NotEnabled next e h = absurd (cc e)
on_led P Undefined next e h = absurd (cc e)
on_led P (Done did mid) next e h = subst P (same_Some mid next e) h

module _ (p : Program) (es : List Thread) (places : List ℕ) (has : HasOutlines p es places) where
  -- the lists have their lengths, and the threads stand somewhere
  abbrev Stood : State → Type 0
  Stood s = HasLengths (bare_program p) s × ((at : ℕ → Position) × Standing (code_of p places) s at)

  kept : (e : Event) (s next : State) → led (bare_program p) e s ≡ Some next → Stood s → Stood next
  kept e s next leads h =
      let moved = on_led (Moved (code_of p places) (body_of es) s h.1.0) (step (bare_program p) s e) next leads
      (each_step_moves (code_of p places) (body_of es) (fits p es places has) s h.1.0 h.1.1 h.0 e) in
      (on_led (HasLengths (bare_program p)) (step (bare_program p) s e) next leads (keeps (step (bare_program p) s e) (effect_of_step (bare_program p) s e)), ((λ u. (moved u).to), (λ u. (moved u).stands)))
    where
      keeps : (o : Outcome) → OnDone o (Effect (bare_program p) s e.thread) → OnDone o (HasLengths (bare_program p))
      keeps NotEnabled h = tt
      keeps Undefined h = tt
      keeps (Done did next) effect = keeps_lengths (bare_program p) s h.0 e.thread next effect

  pub stands : (input : List ℤ) (s : State) → Reached (bare_program p) input s → (at : ℕ → Position) × Standing (code_of p places) s at
  stands input s r =
      let first = start (bare_program p) input in
      (invariant_holds (led (bare_program p)) Stood kept r.events first s (sym (runs_so (bare_program p) r.events first) ∙ r.reached)
      (reached_have_lengths (bare_program p) input first (record { events = []; reached = refl }), (first_position es, threads_start p es places input has))).1

pub reached_stand : ReachedThreadsStand
reached_stand p es places input s has r = stands p es places has input s r

pub steps_move : StepsMoveThreads
steps_move p es places input s at e done next has r standing leads =
    let moved = subst (λ o. OnDone o (Moved (code_of p places) (body_of es) s at)) leads
    (each_step_moves (code_of p places) (body_of es) (fits p es places has) s at standing (reached_have_lengths (bare_program p) input s r) e) in
    ((λ u. (moved u).to), (λ u. (moved u).stands), (λ u. (moved u).moves))
