-- What statements acquire.
use Rattle.std.specs.Prelude.{ℕ, Some, None}
use Rattle.std.specs.declared.option.Option.{Option}
use Rattle.c_tree.specs.Expressions.{Place}
use Rattle.c_tree.specs.Bare.{Program}
use Rattle.c_meaning.specs.State.{Locals, State}
use Rattle.c_meaning.specs.Places.{mutex_at}
use Rattle.c_meaning.specs.Stuck.{monitor_at}

-- the resource that a statement acquires
abbrev pub acquires : Program → State → Locals → Option Place → Option ℕ → Option ℕ
acquires p s locals (Some place) monitor = mutex_at p s locals place
acquires p s locals None (Some monitor) = monitor_at p monitor
acquires p s locals None None = None
