use Rattle.gadara_net.specs.Flows.{flow_net}
use Rattle.candidates.proofs.Kept.{component_from, mutual_of}
use Rattle.candidates.proofs.search.Candidates.new.Goals as goal

pub invariant_of-result : goal.invariant_of-result
invariant_of-result c =
    let n = flow_net c.args.net.now in
    let flow = c.keeps_flow.ensures in
    let rows = c.hold_wait-leaving.result in
    let arcs = c.hold_wait-leaving.ensures in
    record {
      flow = flow;
      leaves = arcs;
      enters = c.reversed-entering.ensures;
      component_of = λ r lt s. (
        (λ on. component_from n rows flow.net flow.shaped.few arcs r s lt ((c.components-components.ensures r s lt).0 on)),
        (λ is. (c.components-components.ensures r s lt).1 (mutual_of n rows flow.net flow.shaped.few arcs r s lt is)),
      );
    }
