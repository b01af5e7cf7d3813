use Rattle.std.proofs.Common.{◌≡◌, ◌+◌, drop}
use Rattle.context_locals.proofs.Declaring.{left_count}
use Rattle.context_locals.proofs.mutexes.mutex_count.Given as goal

abbrev pub invariant-loop-o : goal.invariant-loop-o
invariant-loop-o l = l.count + left_count (drop l.o-index l.o-items) ≡ left_count l.p.mutexes
