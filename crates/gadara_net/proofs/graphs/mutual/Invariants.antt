use Rattle.std.proofs.Common.{◌≡◌, ℕ, ◌<◌}
use Rattle.std.specs.Prelude.{IsTrue, ◌↔◌, ◌⊎◌}
use Rattle.net_laws.specs.Candidates.{members}
use Rattle.gadara_net.specs.Graphs.{has_arc}
use Rattle.gadara_net.proofs.graphs.mutual.Given as goal

abbrev pub invariant-loop-s : goal.invariant-loop-s
invariant-loop-s l = (q : ℕ) → IsTrue (members l.found q) ↔ ((l.resource ≡ q) ⊎ ((q < l.s) × IsTrue (has_arc l.rows l.resource q) × IsTrue (has_arc l.rows q l.resource)))
