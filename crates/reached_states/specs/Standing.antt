-- At which statements the frames of threads stand.
use Rattle.std.specs.Prelude.{◌≡◌, ◌<◌, ℕ, ℤ, List, [], ◌∷◌, ◌++◌, Some, ⊤, slice_get}
use Rattle.c_tree.specs.Bare as bare
use Rattle.c_tree.specs.Bare.{Stmts, Cons, Program}
use Rattle.c_tree.specs.Numbering.{mutex_count}
use Rattle.c_meaning.specs.State.{Frame, Status, NotBegun, Running, Waiting, Reacquiring, Ended, State}
use Rattle.c_meaning.specs.Waits.{takes_of}
use Rattle.c_meaning.specs.Run.{Reached}

-- a call stands first
abbrev pub AtCall : Stmts → Type 0
AtCall (Cons (bare.Call target function args) rest) = ⊤
AtCall todo = ⊥

-- in each of these frames
abbrev pub AtCalls : List Frame → Type 0
AtCalls [] = ⊤
AtCalls (f ∷ more) = AtCall f.todo × AtCalls more

-- there is a newest frame, and those below it stand at calls
abbrev pub IsStack : List Frame → Type 0
IsStack [] = ⊥
IsStack (f ∷ more) = AtCalls more

-- a wait stands first
abbrev pub AtWait : Stmts → Type 0
AtWait (Cons (bare.Wait cond mutex takes) rest) = ⊤
AtWait todo = ⊥

-- in the newest frame
abbrev pub WaitsIn : List Frame → Type 0
WaitsIn [] = ⊥
WaitsIn (f ∷ more) = AtWait f.todo

-- what is left at the end of a list
abbrev pub IsLeftOf : List ℕ → List ℕ → Type 0
IsLeftOf left all = (front : List ℕ) × (front ++ left ≡ all)

-- a thread stands so: at a wait while it waits or takes again, and with a mutex that is one of the program's
abbrev pub Stands : Program → Status → Type 0
Stands p NotBegun = ⊤
Stands p (Running frames) = IsStack frames
Stands p (Waiting condition mutex frames) = (mutex < mutex_count p) × WaitsIn frames × IsStack frames
Stands p (Reacquiring mutex takes frames) = (mutex < mutex_count p) × WaitsIn frames × IsStack frames × IsLeftOf takes (takes_of frames)
Stands p Ended = ⊤

abbrev pub ReachedStand : Type 0
ReachedStand = (p : Program) (input : List ℤ) (s : State) → Reached p input s → (u : ℕ) (status : Status) → slice_get s.threads u ≡ Some status → Stands p status
