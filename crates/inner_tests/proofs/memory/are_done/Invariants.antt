use Rattle.c_steps.specs.Kept.{IsStateOf}
use Rattle.inner_tests.proofs.memory.are_done.Given as goal

-- the state stays one of the program
abbrev pub invariant-loop-thread : goal.invariant-loop-thread
invariant-loop-thread l = IsStateOf l.p l.state
