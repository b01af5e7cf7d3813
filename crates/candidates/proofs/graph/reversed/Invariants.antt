use Rattle.std.proofs.Common.{ℕ, ◌<◌}
use Rattle.std.specs.Prelude.{IsTrue, ◌↔◌}
use Rattle.gadara_net.specs.Graphs.{has_arc}
use Rattle.candidates.proofs.graph.reversed.Given as goal

abbrev pub invariant-loop-target : goal.invariant-loop-target
invariant-loop-target l = (r s : ℕ) → s < l.target → IsTrue (has_arc l.row-items s r) ↔ IsTrue (has_arc l.rows r s)
