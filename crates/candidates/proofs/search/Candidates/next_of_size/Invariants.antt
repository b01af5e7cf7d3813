use Rattle.std.proofs.Common.{ℕ, suc, ◌<◌, ◌≤◌, ◌^◌}
use Rattle.gadara_net.specs.Flows.{flow_net}
use Rattle.candidates.specs.Sized.{IsSized}
use Rattle.candidates.proofs.search.Candidates.next_of_size.Given as goal

abbrev pub invariant-loop-top : goal.invariant-loop-top
invariant-loop-top l = record {
  from_here : (C : ℕ) → IsSized (flow_net l.self) l.size l.after C → 2 ^ l.top ≤ C;
  within : l.after < 2 ^ suc l.top;
}
