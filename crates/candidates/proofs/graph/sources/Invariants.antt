use Rattle.std.proofs.Common.{ℕ, ◌<◌}
use Rattle.std.specs.Prelude.{IsTrue, ◌↔◌}
use Rattle.net_laws.specs.Candidates.{members}
use Rattle.gadara_net.specs.Graphs.{has_arc}
use Rattle.candidates.proofs.graph.sources.Given as goal

abbrev pub invariant-loop-source : goal.invariant-loop-source
invariant-loop-source l = (r : ℕ) → IsTrue (members l.found r) ↔ ((r < l.source) × IsTrue (has_arc l.rows r l.target))
