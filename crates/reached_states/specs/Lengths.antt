-- How long the lists of a state are.
use Rattle.std.specs.Prelude.{◌≡◌, ◌≤◌, ◌+◌, ℕ, ℤ, List, length, sum_by, Some, slice_get}
use Rattle.c_tree.specs.Bare.{Program}
use Rattle.c_tree.specs.Numbering.{mutex_count, thread_count}
use Rattle.c_meaning.specs.State.{State, first_cells}
use Rattle.c_meaning.specs.Run.{Reached}

-- how many ints and members of arrays are declared
abbrev pub cell_count : Program → ℕ
cell_count p = length p.ints + sum_by (λ a. a.len) p.arrays

-- a cell for each value that a state starts with, an owner or none for each mutex, what each thread does, and a row of tokens for each monitor, with a
-- number for each thread
pub record HasLengths (p : Program) (s : State) : Type 0 where
  pub cells : length s.cells ≡ length (first_cells p)
  pub owners : length s.owners ≡ mutex_count p
  pub threads : length s.threads ≡ thread_count p
  pub rows : length s.tokens ≡ length p.monitors
  pub each_row : (monitor : ℕ) (row : List ℕ) → slice_get s.tokens monitor ≡ Some row → length row ≡ thread_count p

abbrev pub ReachedHaveLengths : Type 0
ReachedHaveLengths = (p : Program) (input : List ℤ) (s : State) → Reached p input s → HasLengths p s

-- these are cells enough for all that are declared
abbrev pub ReachedHaveCells : Type 0
ReachedHaveCells = (p : Program) (input : List ℤ) (s : State) → Reached p input s → cell_count p ≤ length s.cells
