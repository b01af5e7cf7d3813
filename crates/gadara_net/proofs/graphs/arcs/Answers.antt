use Rattle.std.proofs.Common.{length, ap, arith}
use Rattle.edges.specs.declared.EdgeOp.TheVariants.{Plain}
use Rattle.gadara_net.proofs.Flowing.{read_same}
use Rattle.gadara_net.proofs.Reaching.{no_arc}
use Rattle.gadara_net.proofs.graphs.arcs.Goals as goal

pub loop-edge-init : goal.loop-edge-init
loop-edge-init c r s lt = no_arc 64 r s

pub add_arcs-requires-clause-edge : goal.add_arcs-requires-clause-edge
add_arcs-requires-clause-edge c =
    (c.loop-edge.edge-index, read_same c.args.flow.now.edges c.as_slice-edge-items.result.now c.loop-edge.edge-index (record { from = 0; to = 0; op = Plain }) c.as_slice-edge-items.ensures (omega (arith, c.loop-edge-test.true, ap length c.as_slice-edge-items.ensures)))
