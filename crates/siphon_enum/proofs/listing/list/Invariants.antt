use Rattle.std.proofs.Common.{◌≡◌, ◌≤◌}
use Rattle.std.specs.Prelude.{vec_capacity}
use Rattle.gadara_net.specs.Flows.{flow_net}
use Rattle.candidates.specs.Next.{IsStart}
use Rattle.candidates.proofs.Order.{steps_left}
use Rattle.siphon_enum.specs.Kept.{AreKept, AreMinimalUpTo}
use Rattle.siphon_enum.proofs.listing.list.Given as goal

abbrev pub invariant-loop-next : goal.invariant-loop-next
invariant-loop-next g l = record {
  start : IsStart (flow_net l.net) l.at;
  up_to : AreMinimalUpTo (flow_net l.net) l.at l.sets.items;
  kept : AreKept g.S.PlaceSet.bound g.S.PlaceSet.places (flow_net l.net) l.limit l.sets.items l.siphons;
  capacity : l.limit ≤ vec_capacity l.sets;
  points : l.work ≡ l.fn.work;
}

abbrev pub decreases-loop-next : goal.decreases-loop-next
decreases-loop-next g l = steps_left l.at
