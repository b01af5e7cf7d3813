use Rattle.std.proofs.Common.{◌≡◌, ℕ, ◌<◌, nat_lt, ◌&&◌}
use Rattle.c_meaning.specs.Shown.{shown}
use Rattle.c_meaning.specs.Closed.{has}
use Rattle.c_meaning.specs.Stuck.{is_holder}
use Rattle.c_steps.specs.Model.{state_of}
use Rattle.c_steps.proofs.state.State.holders_of.Given as goal

-- the set has the holders among the threads so far
abbrev pub invariant-loop-u : goal.invariant-loop-u
invariant-loop-u l = (v : ℕ) → v < 32 → has l.set v ≡ (nat_lt v l.u && is_holder (shown l.p) (state_of l.p l.self) v l.r)
