use Rattle.std.proofs.Common.{drop}
use Rattle.context_locals.proofs.Constants.{Left}
use Rattle.context_locals.proofs.known.Known.constants.Given as goal

abbrev pub invariant-loop-e : goal.invariant-loop-e
invariant-loop-e l = Left l.self (drop l.e-index l.es) l.es l.all.items
