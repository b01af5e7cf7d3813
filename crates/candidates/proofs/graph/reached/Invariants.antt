use Rattle.std.proofs.Common.{◌+◌, ◌-◌, ◌*◌, ◌^◌}
use Rattle.net_laws.specs.Candidates.{members}
use Rattle.candidates.proofs.Walks.{AreSeen}
use Rattle.candidates.proofs.graph.reached.Given as goal

abbrev pub invariant-loop-left : goal.invariant-loop-left
invariant-loop-left l = AreSeen l.rows (members l.set) l.resource (members l.seen) (members l.left)

abbrev pub decreases-loop-left : goal.decreases-loop-left
decreases-loop-left l = (l.set - l.seen) * 2 ^ 64 + l.left
