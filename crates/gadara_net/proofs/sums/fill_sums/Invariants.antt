use Rattle.std.proofs.Common.{◌≡◌, ℕ, ◌<◌, Some}
use Rattle.std.specs.Prelude.{slice_get, if◌then◌else◌}
use Rattle.net_laws.specs.Candidates.{members}
use Rattle.net_laws.specs.Lines.{held_of}
use Rattle.gadara_net.specs.Flows.{flow_net}
use Rattle.gadara_net.proofs.sums.fill_sums.Given as goal

abbrev pub invariant-loop-p : goal.invariant-loop-p
invariant-loop-p g l = (q : ℕ) → q < l.p → slice_get l.sums q ≡ Some (if g.S.PlaceSet.places l.siphon q then 0 else held_of (flow_net l.flow) (members l.resources) q)
