-- Runs by schedules, and what a trace says of one.
use Rattle.std.specs.Prelude.{◌≡◌, ◌≢◌, ℕ, ℤ, suc, Bool, IsTrue, List, length, take, drop, slice_get, Some}
use Rattle.c_tree.specs.Bare.{Program}
use Rattle.c_check.specs.Tables.{Numbers}
use Rattle.c_meaning.specs.declared.Did.{Did}
use Rattle.c_meaning.specs.declared.Event.{Event}
use Rattle.c_meaning.specs.Closed.{has}
use Rattle.c_meaning.specs.Outcome as outcome
use Rattle.c_meaning.specs.Run.{run}
use Rattle.c_meaning.specs.State.{State, start}
use Rattle.c_meaning.specs.Step.{step}
use Rattle.c_meaning.specs.Stuck.{IsStuck}
use Rattle.schedule_runner.specs.declared.runs.TraceEnd.{TraceEnd}
use Rattle.schedule_runner.specs.declared.runs.TraceEnd.TheVariants.{All, NotEnabled, Undefined}
use Rattle.schedule_runner.specs.declared.runs.Trace.{Trace}
use Rattle.schedule_runner.specs.Acts.{act_line}

-- what a step appended to the output
abbrev pub appended : State → State → List ℕ
appended s next = drop (length s.output) next.output

-- the event of a place was done in the state that those before it lead to, and this is its line
pub record IsActAt (p : Program) (n : Numbers) (first : State) (es : List Event) (place : ℕ) (line : List ℕ) : Type 0 where
  pub event : Event
  pub state : State
  pub done : Did
  pub next : State
  pub stands : slice_get es place ≡ Some event
  pub before : run p (take place es) first ≡ Some state
  pub does : step p state event ≡ outcome.Done done next
  pub is : line ≡ act_line n event.thread done (appended state next)

-- the event of a place is the next one, and isn't done in this state
pub record IsRefusedAt (p : Program) (s : State) (es : List Event) (place : ℕ) (why : outcome.Outcome) (number : ℕ) : Type 0 where
  pub event : Event
  pub stands : slice_get es place ≡ Some event
  pub refused : step p s event ≡ why
  pub counted : number ≡ suc place

-- why a run went no further than so many events: there are no more, or the next one, whose number from 1 is told, isn't enabled or is undefined
abbrev pub EndsAt : Program → State → List Event → ℕ → TraceEnd → Type 0
EndsAt p s es count All = count ≡ length es
EndsAt p s es count (NotEnabled number) = IsRefusedAt p s es count outcome.NotEnabled number
EndsAt p s es count (Undefined number) = IsRefusedAt p s es count outcome.Undefined number

-- the lines are those of the events that were done, one after the other, and lead to a state
pub record IsFollowed (p : Program) (n : Numbers) (first : State) (es : List Event) (lines : List (List ℕ)) (last : State) : Type 0 where
  pub leads : run p (take (length lines) es) first ≡ Some last
  pub acts : (place : ℕ) (line : List ℕ) → slice_get lines place ≡ Some line → IsActAt p n first es place line

-- the largest stuck set, as the bits of a number
pub record IsLargestStuck (p : Program) (s : State) (set : ℕ) : Type 0 where
  pub none : set ≡ 0 → (threads : ℕ → Bool) → IsStuck p s threads → ⊥
  pub stuck : set ≢ 0 → IsStuck p s (has set)
  pub each : (threads : ℕ → Bool) → IsStuck p s threads → (t : ℕ) → IsTrue (threads t) → IsTrue (has set t)

-- a trace is that of the longest front of the schedule that is a run
pub record IsTrace (p : Program) (n : Numbers) (input : List ℤ) (es : List Event) (trace : Trace) : Type 0 where
  pub last : State
  pub followed : IsFollowed p n (start p input) es trace.acts last
  pub end : EndsAt p last es (length trace.acts) trace.end
  pub ended : trace.ended ≡ last.main_ended
  pub stuck : IsLargestStuck p last trace.stuck
