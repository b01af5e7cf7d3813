use Rattle.std.proofs.Common.{◌≡◌, ◌++◌}
use Rattle.answers.specs.Traced.{threads_text}
use Rattle.answers.proofs.traced.put_threads.Given as goal

-- the threads so far were written
abbrev pub invariant-loop-t : goal.invariant-loop-t
invariant-loop-t l = l.out.items ≡ l.fn.out.items ++ threads_text l.set l.t
