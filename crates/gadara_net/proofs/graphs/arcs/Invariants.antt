use Rattle.std.proofs.Common.{◌≡◌, ℕ, ◌<◌, ◌&&◌, take}
use Rattle.std.specs.Prelude.{nat_lt}
use Rattle.std.specs.List.{list_any}
use Rattle.edges.specs.Ops.{takes}
use Rattle.gadara_net.specs.Flows.{flow_net}
use Rattle.gadara_net.specs.Graphs.{has_arc}
use Rattle.gadara_net.proofs.graphs.arcs.Given as goal

abbrev pub invariant-loop-edge : goal.invariant-loop-edge
invariant-loop-edge l = (r s : ℕ) → r < 64 → has_arc l.rows r s ≡ list_any (λ e. nat_lt 0 ((flow_net l.flow).held e.from r) && takes e.op s) (take l.edge-index l.flow.edges)
