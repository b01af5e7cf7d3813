-- The points of threads in reached states.
use Rattle.std.proofs.Common.{◌≡◌, ℕ, zero, suc, List, [], ◌∷◌, ◌++◌, Some, refl, sym, ap, ◌∙◌, subst}
use Rattle.std.specs.Prelude.{ℤ, slice_get, option_and_then}
use Rattle.std.proofs.lemmas.Option.{same_Some}
use Rattle.c_tree.specs.Bare as bare
use Rattle.c_tree.specs.Lined.{Program, bare_program}
use Rattle.c_meaning.specs.declared.Did.{Did}
use Rattle.c_meaning.specs.declared.Event.{Event}
use Rattle.c_meaning.specs.State.{State, start}
use Rattle.c_meaning.specs.Outcome.{Outcome, NotEnabled, Undefined, Done}
use Rattle.c_meaning.specs.Step.{step}
use Rattle.c_meaning.specs.Run.{then_on, run, Reached}
use Rattle.contexts.specs.Threads.{code_of}
use Rattle.run_laws.specs.Runs as system
use Rattle.run_laws.proofs.Runs.{invariant_holds, run_on}
use Rattle.step_effects.proofs.Reaching.{led, runs_so}
use Rattle.outlines.specs.Outline.{Thread}
use Rattle.outlines.specs.Moves.{At}
use Rattle.outline_laws.specs.Leading.{first_point}
use Rattle.outline_runs.specs.Moving.{first_position}
use Rattle.outline_runs.specs.Laws.{HasOutlines}
use Rattle.outline_runs.proofs.Starts.{threads_start}
use Rattle.accounts.specs.Points.{IsLocated, AreAtPoints}
use Rattle.accounts.specs.Laws.{ReachedAreAtPoints}
use Rattle.accounts.proofs.Outlined.{net_with}
use Rattle.accounts.proofs.Located.{located_first}
use Rattle.accounts.proofs.Going.{body_is, steps_go_along}

-- what holds at the start, and behind each step from a reached state where it holds, holds in each reached state
module _ (p : bare.Program) (input : List ℤ) (holds : State → Type 0)
    (kept : (s : State) (e : Event) (done : Did) (next : State) → Reached p input s → holds s → step p s e ≡ Done done next → holds next) where
  abbrev first : State
  first = start p input

  one_more : (s : State) (e : Event) (done : Did) (next : State) → Reached p input s → step p s e ≡ Done done next → Reached p input next
  one_more s e done next r leads =
      let last : system.run (led p) (e ∷ []) s ≡ Some next = sym (runs_so p (e ∷ []) s) ∙ ap (λ o. then_on o (run p [])) leads in
      let before : system.run (led p) r.events first ≡ Some s = sym (runs_so p r.events first) ∙ r.reached in
      record {
        events = r.events ++ e ∷ [];
        reached = runs_so p (r.events ++ e ∷ []) first ∙ run_on (led p) r.events (e ∷ []) first ∙ ap (option_and_then (system.run (led p) (e ∷ []))) before ∙ last;
      }

  on : (e : Event) (s next : State) → led p e s ≡ Some next → Reached p input s × holds s → Reached p input next × holds next
  on e s next leads h = by (step p s e) refl leads
    where
      by : (o : Outcome) → step p s e ≡ o → then_on o Some ≡ Some next → Reached p input next × holds next
      by NotEnabled is none = absurd (cc none)
      by Undefined is none = absurd (cc none)
      by (Done done mid) is to =
          let there : step p s e ≡ Done done next = is ∙ ap (Done done) (same_Some mid next to) in
          (one_more s e done next h.0 there, kept s e done next h.0 h.1 there)

  pub in_reached : holds first → (s : State) → Reached p input s → holds s
  in_reached begins s r =
      (invariant_holds (led p) (λ x. Reached p input x × holds x) on r.events first s (sym (runs_so p r.events first) ∙ r.reached)
      (record { events = []; reached = refl }, begins)).1

-- ---- at the start

begins_located : (es : List Thread) (u : ℕ) (th : Thread) → slice_get es u ≡ Some th → IsLocated es u th (first_position es u) (first_point 0 es 0 u)
begins_located es zero th found = subst (λ body. IsLocated es 0 th (At (body ∷ [])) (first_point 0 es 0 0)) (sym (body_is es 0 th found)) (located_first es 0 th found)
begins_located es (suc u) th found = located_first es (suc u) th found

pub start_at_points : (p : Program) (es : List Thread) (places : List ℕ) (input : List ℤ) → HasOutlines p es places
    → AreAtPoints (code_of p places) es (start (bare_program p) input) (first_point 0 es 0)
start_at_points p es places input has = record { positions = first_position es; standing = threads_start p es places input has; located = begins_located es }

pub reached_at_points : ReachedAreAtPoints
reached_at_points p es places input s has reached =
    in_reached (bare_program p) input (λ x. (points : ℕ → ℕ) × AreAtPoints (code_of p places) es x points)
    (λ x e done next r at leads.
    let gone = steps_go_along p es places (net_with p es (λ i. [])) input x at.0 e done next has
    (record { threads = refl; points = refl; edges = refl; thread_of = λ i lt. refl; waiting = λ i lt. refl }) r at.1 leads in
    (gone.0, gone.1))
    (first_point 0 es 0, start_at_points p es places input has) s reached
