use Rattle.c_steps.specs.Kept.{IsStateOf}
use Rattle.rows.proofs.moves.try_events.Given as goal

-- the state stays one of the program
abbrev pub invariant-loop-k : goal.invariant-loop-k
invariant-loop-k l = IsStateOf l.p l.state
