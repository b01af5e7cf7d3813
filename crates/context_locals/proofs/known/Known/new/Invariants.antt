use Rattle.context_locals.proofs.Keeping.{Passing}
use Rattle.context_locals.proofs.known.Known.new.Given as goal

abbrev pub invariant-loop-k : goal.invariant-loop-k
invariant-loop-k l = Passing l.names l.params l.args l.k l.known
