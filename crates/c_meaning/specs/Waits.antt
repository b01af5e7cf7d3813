-- Conditions, as POSIX has them. A wait stays first in its frame until its thread runs again.
use Rattle.std.specs.Prelude.{ℕ, ◌==◌, Bool, false, if◌then◌else◌, List, [], ◌∷◌, map, Some, None, slice_get, slice_set}
use Rattle.std.specs.declared.option.Option.{Option}
use Rattle.std.specs.List.{list_any}
use Rattle.c_tree.specs.Bare as bare
use Rattle.c_tree.specs.Bare.{Stmts, Cons}
use Rattle.c_meaning.specs.declared.Did.TheVariants as did
use Rattle.c_meaning.specs.State.{Locals, Frame, Status, NotBegun, Running, Waiting, Reacquiring, Ended, State, frame, with_status, goes_on}
use Rattle.c_meaning.specs.Outcome.{Outcome, NotEnabled, Undefined, Done}

-- Wait: undefined where the thread doesn't own the mutex; it has no owner then, and the thread waits
abbrev pub waited_by : State → ℕ → List Frame → ℕ → ℕ → Option (Option ℕ) → Outcome
waited_by s t frames condition mutex (Some (Some owner)) =
    if owner == t then Done (did.Wait mutex) (record (with_status s t (Waiting condition mutex frames)) { owners = slice_set s.owners mutex None }) else Undefined
waited_by s t frames condition mutex (Some None) = Undefined
waited_by s t frames condition mutex None = Undefined

abbrev pub waited : State → ℕ → List Frame → Option ℕ → Option ℕ → Outcome
waited s t frames (Some condition) (Some mutex) = waited_by s t frames condition mutex (slice_get s.owners mutex)
waited s t frames (Some condition) None = Undefined
waited s t frames None mutex = Undefined

-- the takes of a wait that stands first in the newest frame
abbrev pub first_takes : Stmts → List ℕ
first_takes (Cons (bare.Wait cond place takes) rest) = takes
first_takes todo = []

abbrev pub takes_of : List Frame → List ℕ
takes_of [] = []
takes_of (f ∷ more) = first_takes f.todo

-- a woken thread takes the tokens of its wait, and then its mutex
abbrev pub acquires_again : ℕ → List Frame → Status
acquires_again mutex frames = Reacquiring mutex (takes_of frames) frames

-- a thread with this status waits on the condition
abbrev pub waits_on : ℕ → Status → Bool
waits_on condition (Waiting c mutex frames) = c == condition
waits_on condition NotBegun = false
waits_on condition (Running frames) = false
waits_on condition (Reacquiring mutex takes frames) = false
waits_on condition Ended = false

-- Signal that wakes none: enabled where no thread waits on the condition
abbrev pub signalled : State → ℕ → List Frame → Option ℕ → Outcome
signalled s t frames (Some condition) = if list_any (waits_on condition) s.threads then NotEnabled else Done (did.Signal None) (goes_on s t frames)
signalled s t frames None = Undefined

-- Signal that wakes u: enabled where u waits on the condition, and u then acquires its mutex again
abbrev pub woken_by : State → ℕ → List Frame → ℕ → ℕ → Option Status → Outcome
woken_by s t frames condition u (Some (Waiting c mutex waiting)) =
    if c == condition then Done (did.Signal (Some u)) (with_status (goes_on s t frames) u (acquires_again mutex waiting)) else NotEnabled
woken_by s t frames condition u (Some NotBegun) = NotEnabled
woken_by s t frames condition u (Some (Running fs)) = NotEnabled
woken_by s t frames condition u (Some (Reacquiring mutex takes fs)) = NotEnabled
woken_by s t frames condition u (Some Ended) = NotEnabled
woken_by s t frames condition u None = NotEnabled

abbrev pub signalled_to : State → ℕ → List Frame → ℕ → Option ℕ → Outcome
signalled_to s t frames u (Some condition) = woken_by s t frames condition u (slice_get s.threads u)
signalled_to s t frames u None = Undefined

-- Broadcast: all threads that wait on the condition acquire their mutexes again
abbrev pub awakened : ℕ → Status → Status
awakened condition (Waiting c mutex frames) = if c == condition then acquires_again mutex frames else Waiting c mutex frames
awakened condition NotBegun = NotBegun
awakened condition (Running frames) = Running frames
awakened condition (Reacquiring mutex takes frames) = Reacquiring mutex takes frames
awakened condition Ended = Ended

abbrev pub all_awakened : ℕ → State → State
all_awakened condition s = record s { threads = map (awakened condition) s.threads }

abbrev pub broadcast : State → ℕ → List Frame → Option ℕ → Outcome
broadcast s t frames (Some condition) = Done did.Broadcast (all_awakened condition (goes_on s t frames))
broadcast s t frames None = Undefined

-- a waiting thread wakes without a signal, and acquires its mutex again
abbrev pub woken : State → ℕ → ℕ → List Frame → Outcome
woken s t mutex frames = Done did.Wake (with_status s t (acquires_again mutex frames))

-- a woken thread owns its mutex again and runs, and its wait is dropped; no other statement stands first there
abbrev pub wait_ended : State → ℕ → ℕ → Locals → List Frame → Stmts → Outcome
wait_ended s t mutex locals more (Cons (bare.Wait cond place takes) rest) =
    Done (did.Retake mutex) (record (goes_on s t (frame locals rest ∷ more)) { owners = slice_set s.owners mutex (Some t) })
wait_ended s t mutex locals more todo = Undefined

abbrev pub wait_ended_in : State → ℕ → ℕ → List Frame → Outcome
wait_ended_in s t mutex [] = Undefined
wait_ended_in s t mutex (f ∷ more) = wait_ended s t mutex f.locals more f.todo

-- a woken thread that has its tokens goes on where its mutex has no owner
abbrev pub retaken : State → ℕ → ℕ → List Frame → Option (Option ℕ) → Outcome
retaken s t mutex frames (Some None) = wait_ended_in s t mutex frames
retaken s t mutex frames (Some (Some owner)) = NotEnabled
retaken s t mutex frames None = Undefined
