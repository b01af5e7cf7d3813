use Rattle.std.proofs.Common.{ℕ, MatchOption}
use Rattle.gadara_net.specs.Flows.{flow_net}
use Rattle.candidates.specs.Sized.{IsSized, HasTop}
use Rattle.candidates.proofs.Searching.{IsNextRest, rests_left}
use Rattle.candidates.proofs.search.Candidates.next_with_top.Given as goal

abbrev pub invariant-loop-next : goal.invariant-loop-next
invariant-loop-next l =
    MatchOption l.next
    ((C : ℕ) → IsSized (flow_net l.self) l.size l.after C → HasTop C l.top → ⊥)
    (λ rest. IsNextRest (flow_net l.self) l.room l.size l.after l.top rest)

abbrev pub decreases-loop-next : goal.decreases-loop-next
decreases-loop-next l = rests_left l.room l.next
