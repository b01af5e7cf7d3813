-- What a statement is about.
use Rattle.std.specs.Prelude.{ℕ, List, [], Some, None}
use Rattle.std.specs.declared.option.Option.{Option}
use Rattle.c_tree.specs.Expressions.{Place}
use Rattle.c_tree.specs.Bare as bare
use Rattle.c_tree.specs.Bare.{Stmt}

-- the place that a statement locks
abbrev pub lock_of : Stmt → Option Place
lock_of (bare.Lock place) = Some place
lock_of s = None

-- the monitor of which a statement takes a token
abbrev pub take_of : Stmt → Option ℕ
take_of (bare.Take monitor) = Some monitor
take_of s = None

-- the monitors of which a wait takes tokens
abbrev pub takes_in : Stmt → List ℕ
takes_in (bare.Wait cond place takes) = takes
takes_in s = []
