use Rattle.std.proofs.Common.{◌≡◌, ℕ, ◌<◌, ◌≤◌, ◌-◌, Some, length}
use Rattle.std.specs.Prelude.{slice_get}
use Rattle.net_laws.specs.Candidates.{members}
use Rattle.gadara_net.specs.Flows.{flow_net}
use Rattle.gadara_net.specs.Marks.{AreMarked, AreGiversMarked, AreMarkedBefore}
use Rattle.gadara_net.proofs.siphons.mark_sources.Given as goal

abbrev pub invariant-loop-done : goal.invariant-loop-done
invariant-loop-done g l = record {
  bound : g.S.PlaceSet.bound l.out ≡ g.S.PlaceSet.bound l.fn.out;
  marked : AreMarked (flow_net l.flow) (members l.resources) (g.S.PlaceSet.places l.out) l.row l.end;
  givers : AreGiversMarked (flow_net l.flow) (members l.resources) (g.S.PlaceSet.places l.out);
  reached : l.done ≤ l.end;
  before : (k p : ℕ) → k < l.done → slice_get l.row k ≡ Some p → AreMarkedBefore (flow_net l.flow) (members l.resources) (g.S.PlaceSet.places l.out) p;
}

abbrev pub decreases-loop-done : goal.decreases-loop-done
decreases-loop-done g l = length l.row - l.done
