use Rattle.c_steps.specs.Kept.{IsStateOf}
use Rattle.rows.proofs.moves.judge_lines.Given as goal

-- the state stays one of the program
abbrev pub invariant-loop-line : goal.invariant-loop-line
invariant-loop-line l = IsStateOf l.p l.state
