use Rattle.std.proofs.Common.{◌≡◌, ℕ, ◌<◌, length}
use Rattle.c_meaning.specs.Shown.{shown}
use Rattle.c_steps.specs.Model.{state_of}
use Rattle.c_steps.specs.Blocks.{IsEntry, at}
use Rattle.c_steps.proofs.state.State.blocking.Given as goal

-- the threads so far have their entries
abbrev pub invariant-loop-t : goal.invariant-loop-t
invariant-loop-t l = (length l.holders ≡ 32) × ((k : ℕ) → k < l.t → IsEntry (shown l.p) (state_of l.p l.self) k (at l.holders k))
