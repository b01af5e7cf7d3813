use Rattle.std.proofs.Common.{◌≡◌, ℕ, ◌<◌}
use Rattle.net_laws.proofs.Graph.{joins}
use Rattle.gadara_net.specs.Graphs.{has_arc}
use Rattle.gadara_net.proofs.graphs.join_all.Given as goal

abbrev pub invariant-loop-through : goal.invariant-loop-through
invariant-loop-through l = (r s : ℕ) → r < 64 → has_arc l.rows r s ≡ joins (has_arc l.fn.rows) l.through r s
