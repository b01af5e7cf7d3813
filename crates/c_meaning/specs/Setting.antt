-- What sets locals and cells. The thread t is in the newest of its frames, whose locals are given, and has the statements `rest` to do behind the act; `more` are its
-- other frames.
use Rattle.std.specs.Prelude.{ℕ, ℤ, List, [], ◌∷◌, Some, None, slice_set}
use Rattle.std.specs.declared.option.Option.{Option}
use Rattle.std.specs.FinMap as finite
use Rattle.c_tree.specs.Bare.{Stmts}
use Rattle.c_meaning.specs.declared.Did.TheVariants as did
use Rattle.c_meaning.specs.State.{Locals, Frame, State, frame, goes_on}
use Rattle.c_meaning.specs.Outcome.{Outcome, Undefined, Done, moved}
use Rattle.c_meaning.specs.Places.{Target, Cell, Local}

-- the thread goes on, and the target has a value
abbrev pub set : State → ℕ → Locals → Stmts → List Frame → Target → ℤ → State
set s t locals rest more (Cell cell) z = record (goes_on s t (frame locals rest ∷ more)) { cells = slice_set s.cells cell z }
set s t locals rest more (Local name) z = goes_on s t (frame (finite.insert locals name z) rest ∷ more)

-- Declare: sets the local, or takes its value away
abbrev pub declared_local : State → ℕ → Locals → Stmts → List Frame → List ℕ → Option (Option ℤ) → Outcome
declared_local s t locals rest more name (Some (Some z)) = moved s t (frame (finite.insert locals name z) rest ∷ more)
declared_local s t locals rest more name (Some None) = moved s t (frame (finite.remove locals name) rest ∷ more)
declared_local s t locals rest more name None = Undefined

-- Assign: sets the cell or the local
abbrev pub assigned : State → ℕ → Locals → Stmts → List Frame → Option Target → Option ℤ → Outcome
assigned s t locals rest more (Some target) (Some z) = Done did.Step (set s t locals rest more target z)
assigned s t locals rest more (Some target) None = Undefined
assigned s t locals rest more None z = Undefined

-- Read: sets the target to the next number of the input; where none is left, nothing is set
abbrev pub read_into : State → ℕ → Locals → Stmts → List Frame → Option Target → List ℤ → Outcome
read_into s t locals rest more (Some target) (z ∷ input) = Done did.Read (record (set s t locals rest more target z) { input = input })
read_into s t locals rest more (Some target) [] = Done did.Read (goes_on s t (frame locals rest ∷ more))
read_into s t locals rest more None input = Undefined
