use Rattle.std.proofs.Common.{vec_len}
use Rattle.context_locals.proofs.known.Known.close.Given as goal
use Rattle.context_locals.proofs.Closing.{Closing}

abbrev pub decreases-loop-change : goal.decreases-loop-change
decreases-loop-change l = vec_len l.self.changes

abbrev pub invariant-loop-change : goal.invariant-loop-change
invariant-loop-change l = Closing l.fn.self l.self
