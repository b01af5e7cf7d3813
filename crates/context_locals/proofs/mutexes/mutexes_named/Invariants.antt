use Rattle.context_locals.proofs.Declaring.{Left}
use Rattle.context_locals.proofs.mutexes.mutexes_named.Given as goal

abbrev pub invariant-loop-o : goal.invariant-loop-o
invariant-loop-o l = Left l.objects l.name l.o-index l.first
