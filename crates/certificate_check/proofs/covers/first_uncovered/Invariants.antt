use Rattle.std.proofs.Common.{◌≡◌, ◌+◌, length}
use Rattle.gadara_net.specs.Flows.{flow_net}
use Rattle.candidates.specs.Next.{IsStart}
use Rattle.candidates.proofs.Order.{steps_left}
use Rattle.certificate_check.proofs.Covered.{AreCoveredUpTo}
use Rattle.certificate_check.proofs.covers.first_uncovered.Given as goal

abbrev pub invariant-loop-next : goal.invariant-loop-next
invariant-loop-next g l = record {
  size : g.S.PlaceSet.bound l.places ≡ length l.net.points + length l.net.tokens;
  room : l.work ≡ length l.net.points;
  start : IsStart (flow_net l.net) l.at;
  covered : AreCoveredUpTo (flow_net l.net) l.lines l.at;
}

abbrev pub decreases-loop-next : goal.decreases-loop-next
decreases-loop-next g l = steps_left l.at
