use Rattle.std.proofs.Common.{ℕ, ◌<◌}
use Rattle.gadara_net.specs.Flows.{flow_net}
use Rattle.candidates.specs.Components.{IsSmallAt}
use Rattle.candidates.proofs.search.Candidates.too_large.Given as goal

abbrev pub invariant-loop-r : goal.invariant-loop-r
invariant-loop-r l = (q : ℕ) → q < l.r → IsSmallAt (flow_net l.self) q
