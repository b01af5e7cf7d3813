-- Which events ask for memory.
use Rattle.std.specs.Prelude.{Bool, true, false, List, [], ◌∷◌, Some, None, slice_get}
use Rattle.std.specs.declared.option.Option.{Option}
use Rattle.c_tree.specs.Bare as bare
use Rattle.c_tree.specs.Bare.{Stmt, Stmts, Nil, Cons}
use Rattle.c_meaning.specs.declared.Event.{Event}
use Rattle.c_meaning.specs.declared.EventKind.{EventKind}
use Rattle.c_meaning.specs.declared.EventKind.TheVariants.{Go, Choose, Wake}
use Rattle.c_meaning.specs.State.{Frame, Status, NotBegun, Running, Waiting, Reacquiring, Ended, State}

-- a call, a print and a create do
abbrev pub asks_at : Stmt → Bool
asks_at (bare.Call target function args) = true
asks_at (bare.Print format args) = true
asks_at (bare.Create slot function arg) = true
asks_at s = false

-- the first of what is still to do does
abbrev pub asks_first : Stmts → Bool
asks_first Nil = false
asks_first (Cons s rest) = asks_at s

abbrev pub asks_in : List Frame → Bool
asks_in [] = false
asks_in (f ∷ more) = asks_first f.todo

-- a running thread, by its newest frame
abbrev pub asks_of : Option Status → Bool
asks_of (Some (Running frames)) = asks_in frames
asks_of (Some NotBegun) = false
asks_of (Some (Waiting condition mutex frames)) = false
asks_of (Some (Reacquiring mutex takes frames)) = false
asks_of (Some Ended) = false
asks_of None = false

-- only where a thread goes
abbrev pub asks_when : EventKind → Option Status → Bool
asks_when Go status = asks_of status
asks_when (Choose u) status = false
asks_when Wake status = false

abbrev pub asks : State → Event → Bool
asks s e = asks_when e.kind (slice_get s.threads e.thread)
