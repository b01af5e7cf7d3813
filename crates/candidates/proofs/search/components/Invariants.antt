use Rattle.std.proofs.Common.{ℕ, ◌<◌}
use Rattle.std.specs.Prelude.{IsTrue, ◌↔◌}
use Rattle.gadara_net.specs.Graphs.{has_arc}
use Rattle.candidates.specs.Reached.{IsMutual}
use Rattle.candidates.proofs.search.components.Given as goal

abbrev pub invariant-loop-r : goal.invariant-loop-r
invariant-loop-r l = (r s : ℕ) → r < l.r → IsTrue (has_arc l.row-items r s) ↔ IsMutual l.rows r s
