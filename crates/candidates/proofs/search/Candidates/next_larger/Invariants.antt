use Rattle.std.proofs.Common.{ℕ, ◌<◌, ◌≤◌, ◌^◌}
use Rattle.std.specs.Int.RustNames.{count_ones}
use Rattle.net_laws.specs.Candidates.{IsCandidate, members}
use Rattle.gadara_net.specs.Flows.{flow_net}
use Rattle.candidates.proofs.search.Candidates.next_larger.Given as goal

abbrev pub invariant-loop-larger : goal.invariant-loop-larger
invariant-loop-larger l = record {
  from_here : (C : ℕ) → C < 2 ^ 64 → IsCandidate (flow_net l.self) (members C) → l.size < count_ones C → l.larger ≤ count_ones C;
  above : l.size < l.larger;
}
