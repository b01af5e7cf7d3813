-- Mutexes, as POSIX has them, and monitors. The thread t goes on with `frames`.
use Rattle.std.specs.Prelude.{ℕ, zero, suc, ◌==◌, nat_lt, if◌then◌else◌, List, sum, Some, None, unwrap_or, slice_get, slice_set}
use Rattle.std.specs.declared.option.Option.{Option}
use Rattle.c_meaning.specs.declared.Did.TheVariants as did
use Rattle.c_meaning.specs.State.{Frame, Status, Running, State, with_status, goes_on}
use Rattle.c_meaning.specs.Outcome.{Outcome, NotEnabled, Undefined, Done, moved}

-- InitMutex, InitCond: every mutex and condition counts as initialised from the start, so nothing changes
abbrev pub initialised : State → ℕ → List Frame → Option ℕ → Outcome
initialised s t frames (Some object) = moved s t frames
initialised s t frames None = Undefined

-- Lock: enabled where the mutex has no owner; the thread then owns it
abbrev pub locked_by : State → ℕ → List Frame → ℕ → Option (Option ℕ) → Outcome
locked_by s t frames mutex (Some None) = Done (did.Lock mutex) (record (goes_on s t frames) { owners = slice_set s.owners mutex (Some t) })
locked_by s t frames mutex (Some (Some owner)) = NotEnabled
locked_by s t frames mutex None = Undefined

abbrev pub locked : State → ℕ → List Frame → Option ℕ → Outcome
locked s t frames (Some mutex) = locked_by s t frames mutex (slice_get s.owners mutex)
locked s t frames None = Undefined

-- TryLock: where the mutex has no owner the thread owns it and goes on with `taken_arm`, else it goes on with `busy_arm`
abbrev pub tried_by : State → ℕ → (taken_arm busy_arm : List Frame) → ℕ → Option (Option ℕ) → Outcome
tried_by s t taken_arm busy_arm mutex (Some None) = Done (did.Lock mutex) (record (goes_on s t taken_arm) { owners = slice_set s.owners mutex (Some t) })
tried_by s t taken_arm busy_arm mutex (Some (Some owner)) = moved s t busy_arm
tried_by s t taken_arm busy_arm mutex None = Undefined

abbrev pub tried : State → ℕ → (taken_arm busy_arm : List Frame) → Option ℕ → Outcome
tried s t taken_arm busy_arm (Some mutex) = tried_by s t taken_arm busy_arm mutex (slice_get s.owners mutex)
tried s t taken_arm busy_arm None = Undefined

-- Unlock: undefined where the thread doesn't own the mutex; it has no owner then
abbrev pub unlocked_by : State → ℕ → List Frame → ℕ → Option (Option ℕ) → Outcome
unlocked_by s t frames mutex (Some (Some owner)) =
    if owner == t then Done (did.Unlock mutex) (record (goes_on s t frames) { owners = slice_set s.owners mutex None }) else Undefined
unlocked_by s t frames mutex (Some None) = Undefined
unlocked_by s t frames mutex None = Undefined

abbrev pub unlocked : State → ℕ → List Frame → Option ℕ → Outcome
unlocked s t frames (Some mutex) = unlocked_by s t frames mutex (slice_get s.owners mutex)
unlocked s t frames None = Undefined

-- how many tokens a thread holds, of the row of a monitor
abbrev pub held_by : List ℕ → ℕ → ℕ
held_by row t = unwrap_or (slice_get row t) 0

-- the thread has this status, and holds this many tokens of the monitor
abbrev pub holding : State → ℕ → Status → ℕ → List ℕ → ℕ → State
holding s t status monitor row held = record (with_status s t status) { tokens = slice_set s.tokens monitor (slice_set row t held) }

-- Take: enabled where all threads hold fewer tokens of the monitor than it has; the thread then holds one more, and has this status
abbrev pub taken : State → ℕ → Status → ℕ → Option ℕ → Option (List ℕ) → Outcome
taken s t status monitor (Some capacity) (Some row) =
    if nat_lt (sum row) capacity then Done (did.Take monitor) (holding s t status monitor row (suc (held_by row t))) else NotEnabled
taken s t status monitor (Some capacity) None = Undefined
taken s t status monitor None row = Undefined

-- Give: undefined where the thread holds no token of the monitor; it holds one less then
abbrev pub given_from : State → ℕ → List Frame → ℕ → List ℕ → ℕ → Outcome
given_from s t frames monitor row zero = Undefined
given_from s t frames monitor row (suc left) = Done (did.Give monitor) (holding s t (Running frames) monitor row left)

abbrev pub given : State → ℕ → List Frame → ℕ → Option (List ℕ) → Outcome
given s t frames monitor (Some row) = given_from s t frames monitor row (held_by row t)
given s t frames monitor None = Undefined
