use Rattle.std.proofs.Common.{◌≡◌, ℕ, ◌<◌, slice_get, Some}
use Rattle.edges.specs.declared.Edge.{Edge}
use Rattle.gadara_net.specs.Flows.{flow_net}
use Rattle.flow_checks.specs.Checks.{IsEdgeOf}
use Rattle.flow_checks.proofs.flow.are_edges.Given as goal

abbrev pub invariant-loop-edge : goal.invariant-loop-edge
invariant-loop-edge l = (k : ℕ) (e : Edge) → k < l.edge-index → slice_get l.flow.edges k ≡ Some e → IsEdgeOf (flow_net l.flow) e
