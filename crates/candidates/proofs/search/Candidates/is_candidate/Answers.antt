use Rattle.std.proofs.Common.{subst}
use Rattle.std.specs.Prelude.{IsTrue}
use Rattle.net_laws.specs.Candidates.{IsCandidate, members}
use Rattle.gadara_net.specs.Flows.{flow_net}
use Rattle.candidates.proofs.Kept.{candidate_from, circular_of}
use Rattle.candidates.proofs.search.Candidates.is_candidate.Goals as goal

pub returns : goal.returns
returns c =
    let inside = c.self.inside in
    let kept = c.self.invariant in
    let n = flow_net inside.net.now in
    let set = c.args.resources in
    subst (λ f. (IsTrue c.is_circular.result → IsCandidate (flow_net f) (members set)) × (IsCandidate (flow_net f) (members set) → IsTrue c.is_circular.result)) c.self.view_is (
      λ on. candidate_from n inside.leaving set kept.flow.net kept.flow.shaped.few kept.leaves c.ranges.resources.fits (c.is_circular.ensures.0 on),
      λ is. c.is_circular.ensures.1 (circular_of n inside.leaving set kept.flow.net kept.flow.shaped.few kept.leaves c.ranges.resources.fits is),
    )
