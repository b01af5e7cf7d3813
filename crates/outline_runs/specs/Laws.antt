-- What holds of the runs of a program whose threads have outlines.
use Rattle.std.specs.Prelude.{◌≡◌, ℕ, ℤ, IsTrue, List, Some, slice_get}
use Rattle.c_tree.specs.Lined.{Program, bare_program}
use Rattle.c_meaning.specs.declared.Did.{Did}
use Rattle.c_meaning.specs.declared.Event.{Event}
use Rattle.c_meaning.specs.State.{State, start}
use Rattle.c_meaning.specs.Outcome.{Done}
use Rattle.c_meaning.specs.Step.{step}
use Rattle.c_meaning.specs.Run.{Reached}
use Rattle.c_meaning.specs.Stuck.{wanted}
use Rattle.edges.specs.declared.EdgeOp.{EdgeOp}
use Rattle.edges.specs.Ops.{blocks}
use Rattle.outlines.specs.Outline.{Parts, Thread}
use Rattle.outlines.specs.Moves.{Position, MovesTo}
use Rattle.rule_facts.specs.Regular.{Regular}
use Rattle.contexts.specs.Firsts.{HasFirstParts}
use Rattle.contexts.specs.Outlined.{Code}
use Rattle.contexts.specs.Threads.{code_of, Outlines}
use Rattle.outline_runs.specs.Standing.{StandsIf, Standing}
use Rattle.outline_runs.specs.Moving.{first_position, EachMoves}

-- a program that keeps the rules, whose loops have first parts as the grammar has them, and whose threads have these outlines
pub record HasOutlines (p : Program) (es : List Thread) (places : List ℕ) : Type 0 where
  pub regular : Regular p
  pub firsts : HasFirstParts p
  pub outlines : Outlines p es places

-- at the start each thread stands where its outline begins
abbrev pub ThreadsStart : Type 0
ThreadsStart = (p : Program) (es : List Thread) (places : List ℕ) (input : List ℤ) → HasOutlines p es places → Standing (code_of p places) (start (bare_program p) input) (first_position es)

-- behind a step from a reached state each thread stands in its outline, and has moved there from where it stood
abbrev pub StepsMoveThreads : Type 0
StepsMoveThreads =
    (p : Program) (es : List Thread) (places : List ℕ) (input : List ℤ) (s : State) (at : ℕ → Position) (e : Event) (done : Did) (next : State)
    → HasOutlines p es places → Reached (bare_program p) input s → Standing (code_of p places) s at → step (bare_program p) s e ≡ Done done next
    → (to : ℕ → Position) × Standing (code_of p places) next to × EachMoves (bare_program p) es s next at to

-- in each reached state each thread stands in its outline
abbrev pub ReachedThreadsStand : Type 0
ReachedThreadsStand =
    (p : Program) (es : List Thread) (places : List ℕ) (input : List ℤ) (s : State) → HasOutlines p es places → Reached (bare_program p) input s
    → (at : ℕ → Position) × Standing (code_of p places) s at

-- what a thread wants is what the next edge of its outline waits for
abbrev pub WantedComesNext : Type 0
WantedComesNext =
    (code : Code) (s : State) (u r : ℕ) (body : Parts) (x : Position) → StandsIf code (slice_get s.threads u) x → wanted code.program s (slice_get s.threads u) ≡ Some r
    → (does : EdgeOp) × (y : Position) × MovesTo body x does y × IsTrue (blocks does r)
