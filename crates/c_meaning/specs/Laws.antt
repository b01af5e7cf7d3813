-- What holds of all states and events.
use Rattle.std.specs.Prelude.{◌≡◌, ◌↔◌, ℕ, Bool, true, ◌||◌, if◌then◌else◌, IsTrue, Some, None, slice_get}
use Rattle.std.specs.declared.option.Option.{Option}
use Rattle.c_tree.specs.Bare.{Program}
use Rattle.c_meaning.specs.declared.Event.{Event}
use Rattle.c_meaning.specs.State.{State}
use Rattle.c_meaning.specs.Outcome.{NotEnabled}
use Rattle.c_meaning.specs.Step.{step}
use Rattle.c_meaning.specs.Stuck.{wanted, is_taken, is_holder, Blocked, IsStuck}
use Rattle.c_meaning.specs.Closed.{IsClosed}

-- nothing is enabled after main has ended
abbrev pub EndsWithMain : Type 0
EndsWithMain = (p : Program) (s : State) (e : Event) → s.main_ended ≡ true → step p s e ≡ NotEnabled

-- a thread is blocked for one resource at most
abbrev pub BlockedForOne : Type 0
BlockedForOne = (p : Program) (s : State) (t r q : ℕ) → Blocked p s t r → Blocked p s t q → r ≡ q

-- a resource, where no token of it is free
abbrev pub if_taken : Program → State → Option ℕ → Option ℕ
if_taken p s (Some r) = if is_taken p s r then Some r else None
if_taken p s None = None

-- the resource that a thread is blocked for, where there is one
abbrev pub blocked_for : Program → State → ℕ → Option ℕ
blocked_for p s t = if s.main_ended then None else if_taken p s (wanted p s (slice_get s.threads t))

-- a thread is blocked for exactly that resource
abbrev pub BlockedIsComputed : Type 0
BlockedIsComputed = (p : Program) (s : State) (t r : ℕ) → Blocked p s t r ↔ (blocked_for p s t ≡ Some r)

-- a set is stuck exactly where it has a thread and is closed
abbrev pub StuckIsClosed : Type 0
StuckIsClosed =
    (p : Program) (s : State) (threads : ℕ → Bool) → IsStuck p s threads ↔ (((t : ℕ) × IsTrue (threads t)) × IsClosed (blocked_for p s) (is_holder p s) threads)

-- the union of two stuck sets is stuck; so there is a largest one, if there is any
abbrev pub StuckSetsUnite : Type 0
StuckSetsUnite = (p : Program) (s : State) (some others : ℕ → Bool) → IsStuck p s some → IsStuck p s others → IsStuck p s (λ t. some t || others t)
