-- What holds of each state of a run, as the code keeps it.
use Rattle.std.specs.Prelude.{◌≡◌, ℕ, ◌≤◌, ◌<◌, List, length, Some, slice_get, map}
use Rattle.std.specs.declared.option.Option.{Option}
use Rattle.c_tree.specs.declared.program.Program as tree
use Rattle.state_parts.specs.Valid.{AreTablesOf, AreThreadsIn}
use Rattle.c_steps.specs.declared.state.State.{State}

-- each owner is one of so many threads
abbrev pub OwnBelow : ℕ → List (Option ℕ) → Type 0
OwnBelow threads owners = (mutex u : ℕ) → slice_get owners mutex ≡ Some (Some u) → u < threads

-- a state is one of a run of the program
pub record IsStateOf (p : tree.Program) (s : State) : Type 0 where
  pub tables : AreTablesOf p s.tables
  pub threads : AreThreadsIn p s.tables s.threads.items
  pub few_threads : length s.threads.items ≤ 32
  pub few_mutexes : length s.owners.items ≤ 48
  pub few_monitors : length s.tokens.items ≤ 16
  pub rows : (monitor : ℕ) (row : List ℕ) → slice_get (map (λ row. row.items) s.tokens.items) monitor ≡ Some row → length row ≤ 32
  pub owners : OwnBelow (length s.threads.items) s.owners.items
