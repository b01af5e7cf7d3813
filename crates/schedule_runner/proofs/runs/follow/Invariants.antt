use Rattle.std.specs.Prelude.{◌≡◌, length}
use Rattle.c_check.specs.Tables.{numbers}
use Rattle.c_meaning.specs.Shown.{shown}
use Rattle.c_steps.specs.Kept.{IsStateOf}
use Rattle.c_steps.specs.Model.{state_of}
use Rattle.schedule_runner.specs.Traces.{IsFollowed}
use Rattle.schedule_runner.proofs.runs.follow.Given as goal

-- so many events were done, and the lines are theirs
abbrev pub invariant-loop-k : goal.invariant-loop-k
invariant-loop-k l = IsStateOf l.p l.state × (length l.acts ≡ l.k) × IsFollowed (shown l.p) (numbers l.table) (state_of l.p l.initial.state) l.events l.acts (state_of l.p l.state)
