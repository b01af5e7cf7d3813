-- What holds of the points of threads in the runs of a program.
use Rattle.std.specs.Prelude.{◌≡◌, ◌<◌, ◌↔◌, ℕ, ℤ, true, List, replicate, None, Some, slice_get}
use Rattle.c_canonical.specs.ShapedPrograms.{ShapedProgram}
use Rattle.c_rules.specs.Formed.{Formed}
use Rattle.c_tree.specs.declared.program.Mode.{Mode}
use Rattle.c_tree.specs.Lined.{Program, bare_program}
use Rattle.c_tree.specs.Numbering.{mutex_count, resource_count}
use Rattle.c_meaning.specs.declared.Did.{Did}
use Rattle.c_meaning.specs.declared.Event.{Event}
use Rattle.c_meaning.specs.State.{State}
use Rattle.c_meaning.specs.Outcome.{Done}
use Rattle.c_meaning.specs.Step.{step}
use Rattle.c_meaning.specs.Run.{Reached}
use Rattle.c_meaning.specs.Stuck.{is_taken}
use Rattle.net_laws.specs.Net.{Net}
use Rattle.net_laws.specs.Markings.{total_held, IsMarking}
use Rattle.outlines.specs.Outline.{Thread}
use Rattle.outline_laws.specs.Nets.{IsNetOf}
use Rattle.contexts.specs.Walk.{Found}
use Rattle.contexts.specs.Outlines.{outlines}
use Rattle.contexts.specs.Threads.{code_of}
use Rattle.held_counts.specs.Refusals.{refused_threads}
use Rattle.held_counts.specs.Flows.{HasResources}
use Rattle.reached_states.specs.Counts.{tokens_held, all_held}
use Rattle.outline_runs.specs.Laws.{HasOutlines}
use Rattle.accounts.specs.Points.{AreAtPoints, points_of, GoesIn}
use Rattle.accounts.specs.Accounts.{IsNetOfProgram, Accounts}

-- ---- the net of a program

-- what the walk through the contexts of a well-formed program finds are outlines of its threads
abbrev pub FormedAreOutlined : Type 0
FormedAreOutlined =
    (p : Program) (mode : Mode) (es : List Thread) (places : List ℕ) → Formed p mode → ShapedProgram (bare_program p) → outlines p ≡ Found es places → HasOutlines p es places

-- where the walk through these refuses nothing, a net has its counts
abbrev pub ProgramsHaveNets : Type 0
ProgramsHaveNets =
    (p : Program) (mode : Mode) (es : List Thread) (places : List ℕ) → Formed p mode → ShapedProgram (bare_program p) → outlines p ≡ Found es places
    → refused_threads (mutex_count (bare_program p)) (replicate (resource_count (bare_program p)) 0) es ≡ None
    → (n : Net) × (counts : ℕ → List ℕ) × IsNetOfProgram p mode es places n counts

abbrev pub NetsHaveResources : Type 0
NetsHaveResources = (p : Program) (mode : Mode) (es : List Thread) (places : List ℕ) (n : Net) (counts : ℕ → List ℕ) → IsNetOfProgram p mode es places n counts → HasResources n

-- ---- points

-- in each reached state each thread is at a point
abbrev pub ReachedAreAtPoints : Type 0
ReachedAreAtPoints =
    (p : Program) (es : List Thread) (places : List ℕ) (input : List ℤ) (s : State) → HasOutlines p es places → Reached (bare_program p) input s
    → (points : ℕ → ℕ) × AreAtPoints (code_of p places) es s points

-- behind a step each thread is at a point again, to which it has gone along an edge of the outlines' net, or where it was
abbrev pub StepsGoAlongEdges : Type 0
StepsGoAlongEdges =
    (p : Program) (es : List Thread) (places : List ℕ) (n : Net) (input : List ℤ) (s : State) (points : ℕ → ℕ) (e : Event) (done : Did) (next : State)
    → HasOutlines p es places → IsNetOf n es → Reached (bare_program p) input s → AreAtPoints (code_of p places) es s points → step (bare_program p) s e ≡ Done done next
    → (to : ℕ → ℕ) × AreAtPoints (code_of p places) es next to
    × ((u : ℕ) (th : Thread) → slice_get es u ≡ Some th → GoesIn n (points u) (to u) (tokens_held (bare_program p) s u) (tokens_held (bare_program p) next u))

-- ---- what is held

-- in each reached state each thread is at a point, and holds what is held there
abbrev pub ReachedHaveAccounts : Type 0
ReachedHaveAccounts =
    (p : Program) (mode : Mode) (es : List Thread) (places : List ℕ) (n : Net) (counts : ℕ → List ℕ) (input : List ℤ) (s : State)
    → IsNetOfProgram p mode es places n counts → Reached (bare_program p) input s → (points : ℕ → ℕ) × Accounts p es places n s points

-- so it is behind each step, at the points to which the threads go along edges
abbrev pub StepsKeepAccounts : Type 0
StepsKeepAccounts =
    (p : Program) (mode : Mode) (es : List Thread) (places : List ℕ) (n : Net) (counts : ℕ → List ℕ) (input : List ℤ) (s : State) (points : ℕ → ℕ) (e : Event) (done : Did) (next : State)
    → IsNetOfProgram p mode es places n counts → Reached (bare_program p) input s → Accounts p es places n s points → step (bare_program p) s e ≡ Done done next
    → (to : ℕ → ℕ) × Accounts p es places n next to
    × ((u : ℕ) (th : Thread) → slice_get es u ≡ Some th → GoesIn n (points u) (to u) (tokens_held (bare_program p) s u) (tokens_held (bare_program p) next u))

-- a thread owns a mutex exactly where one is held at its point
abbrev pub OwnersAreCounted : Type 0
OwnersAreCounted =
    (p : Program) (es : List Thread) (places : List ℕ) (n : Net) (s : State) (points : ℕ → ℕ) → Accounts p es places n s points
    → (u : ℕ) (th : Thread) (r : ℕ) → slice_get es u ≡ Some th → r < mutex_count (bare_program p) → (slice_get s.owners r ≡ Some (Some u)) ↔ (n.held (points u) r ≡ 1)

-- ---- markings

-- the points of a state's threads are a marking
abbrev pub StatesAreMarked : Type 0
StatesAreMarked =
    (p : Program) (mode : Mode) (es : List Thread) (places : List ℕ) (n : Net) (counts : ℕ → List ℕ) (input : List ℤ) (s : State) (points : ℕ → ℕ)
    → IsNetOfProgram p mode es places n counts → Reached (bare_program p) input s → Accounts p es places n s points → IsMarking n (points_of es points)

-- what is held at them is what the threads hold
abbrev pub HeldIsMarked : Type 0
HeldIsMarked =
    (p : Program) (mode : Mode) (es : List Thread) (places : List ℕ) (n : Net) (counts : ℕ → List ℕ) (s : State) (points : ℕ → ℕ)
    → IsNetOfProgram p mode es places n counts → Accounts p es places n s points → (r : ℕ) → all_held (bare_program p) s r ≡ total_held n (points_of es points) r

-- no token of a resource is free exactly where as many are held as there are
abbrev pub FreeIsMarked : Type 0
FreeIsMarked =
    (p : Program) (mode : Mode) (es : List Thread) (places : List ℕ) (n : Net) (counts : ℕ → List ℕ) (input : List ℤ) (s : State) (points : ℕ → ℕ)
    → IsNetOfProgram p mode es places n counts → Reached (bare_program p) input s → Accounts p es places n s points
    → (r : ℕ) → r < n.resources → (is_taken (bare_program p) s r ≡ true) ↔ (total_held n (points_of es points) r ≡ n.tokens r)
