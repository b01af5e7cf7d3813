use Rattle.std.proofs.Common.{ℕ, ◌<◌, ◌≤◌}
use Rattle.std.specs.Prelude.{IsFalse}
use Rattle.net_laws.specs.Candidates.{members}
use Rattle.gadara_net.proofs.sets.are_below.Given as goal

abbrev pub invariant-loop-r : goal.invariant-loop-r
invariant-loop-r l = (q : ℕ) → l.count ≤ q → q < l.r → IsFalse (members l.resources q)
