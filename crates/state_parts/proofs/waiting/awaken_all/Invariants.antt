use Rattle.std.proofs.Common.{◌≡◌, ◌++◌, take, drop, map}
use Rattle.state_parts.specs.Waiting.{thread_awakened}
use Rattle.state_parts.proofs.waiting.awaken_all.Given as goal

-- the threads so far are awakened, and the others are as before
abbrev pub invariant-loop-thread : goal.invariant-loop-thread
invariant-loop-thread l = l.threads ≡ map (thread_awakened l.condition) (take l.thread-index l.initial.threads) ++ drop l.thread-index l.initial.threads
