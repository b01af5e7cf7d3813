-- Threads that wait, and threads that have ended.
use Rattle.std.specs.Prelude.{ℕ, ◌==◌, Bool, true, false, if◌then◌else◌, Some, None}
use Rattle.std.specs.declared.option.Option.{Option}
use Rattle.c_tree.specs.Bare as bare
use Rattle.c_tree.specs.Bare.{Stmt}
use Rattle.state_parts.specs.declared.threads.Thread.{Thread}
use Rattle.state_parts.specs.declared.threads.Doing.{Doing}
use Rattle.state_parts.specs.declared.threads.Doing.TheVariants.{NotBegun, Running, Waiting, Reacquiring, Ended}

-- the mutex that a thread released when it began to wait on a condition
abbrev pub mutex_waiting : ℕ → Doing → Option ℕ
mutex_waiting condition (Waiting c mutex) = if c == condition then Some mutex else None
mutex_waiting condition NotBegun = None
mutex_waiting condition Running = None
mutex_waiting condition (Reacquiring mutex taken) = None
mutex_waiting condition Ended = None

-- what a thread does after a broadcast on a condition
abbrev pub woken_with : Doing → Option ℕ → Doing
woken_with doing (Some mutex) = Reacquiring mutex 0
woken_with doing None = doing

abbrev pub doing_awakened : ℕ → Doing → Doing
doing_awakened condition doing = woken_with doing (mutex_waiting condition doing)

abbrev pub thread_awakened : ℕ → Thread → Thread
thread_awakened condition thread = record thread { doing = doing_awakened condition thread.doing }

abbrev pub has_ended : Doing → Bool
has_ended Ended = true
has_ended NotBegun = false
has_ended Running = false
has_ended (Waiting c mutex) = false
has_ended (Reacquiring mutex taken) = false

abbrev pub is_wait : Stmt → Bool
is_wait (bare.Wait cond place takes) = true
is_wait s = false
