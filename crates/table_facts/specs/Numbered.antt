-- The threads of the meaning, and those of the table.
use Rattle.std.specs.Prelude.{◌≡◌, ◌+◌, ℕ, ℤ, List, slice_get, Some}
use Rattle.c_tree.specs.Bare as bare
use Rattle.c_tree.specs.Bare.{Program}
use Rattle.c_tree.specs.Numbering.{Creation, function_named, thread_in}
use Rattle.c_tree.specs.Values.{constant, fitting}
use Rattle.c_check.specs.Tables.{numbers_of}
use Rattle.c_check.specs.declared.numbers.Start.{Start}

-- what the table has of a thread: the place of the function that the meaning finds by this name
pub record StartOf (p : Program) (t : ℕ) (name : List ℕ) : Type 0 where
  pub start : Start
  pub listed : slice_get (numbers_of p).starts t ≡ Some start
  pub function : bare.Function
  pub found : function_named p name ≡ Some function
  pub stands : slice_get p.functions start.function ≡ Some function

-- the create statement k of main: the meaning begins the thread k + 1 by it, with the function and the argument that the table has for this thread
pub record ThreadOf (p : Program) (k : ℕ) (c : Creation) : Type 0 where
  pub thread : thread_in p c.slot ≡ Some (k + 1)
  pub start : StartOf p (k + 1) c.function
  pub value : ℤ
  pub argument : constant c.arg ≡ Some value
  -- the argument of the table, where 32 bits hold the value
  pub passed : fitting value ≡ Some value → start.start.arg ≡ value
