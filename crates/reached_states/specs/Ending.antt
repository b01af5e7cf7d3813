-- Main has begun, and its end is the program's.
use Rattle.std.specs.Prelude.{◌≡◌, ◌↔◌, ℤ, true, List, Some, slice_get}
use Rattle.c_tree.specs.Bare.{Program}
use Rattle.c_meaning.specs.State.{Ended, State}
use Rattle.c_meaning.specs.Run.{Reached}
use Rattle.reached_states.specs.Owners.{HasBegun}

pub record MainEnds (s : State) : Type 0 where
  pub begun : HasBegun (slice_get s.threads 0)
  pub ended : (s.main_ended ≡ true) ↔ (slice_get s.threads 0 ≡ Some Ended)

abbrev pub ReachedMainEnds : Type 0
ReachedMainEnds = (p : Program) (input : List ℤ) (s : State) → Reached p input s → MainEnds s
