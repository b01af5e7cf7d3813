use Rattle.std.proofs.Common.{ℕ, ◌<◌, IsTrue}
use Rattle.net_laws.specs.Candidates.{members}
use Rattle.flow_checks.proofs.sets.names_resources.Given as goal

abbrev pub invariant-loop-r : goal.invariant-loop-r
invariant-loop-r l = (k : ℕ) → k < l.r → IsTrue (members l.resources k) → k < l.count
