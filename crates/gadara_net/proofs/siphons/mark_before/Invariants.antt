use Rattle.std.proofs.Common.{◌≡◌, ℕ, suc, ◌≤◌, Some, length}
use Rattle.std.specs.Prelude.{slice_get}
use Rattle.edges.specs.declared.Edge.{Edge}
use Rattle.net_laws.specs.Candidates.{members}
use Rattle.gadara_net.specs.Flows.{flow_net, targets_of}
use Rattle.gadara_net.specs.Marks.{AreMarked, HaveGrown, IsSourceMarked}
use Rattle.gadara_net.proofs.siphons.mark_before.Given as goal

abbrev pub invariant-loop-next : goal.invariant-loop-next
invariant-loop-next g l = record {
  bound : g.S.PlaceSet.bound l.out ≡ g.S.PlaceSet.bound l.fn.out;
  marked : AreMarked (flow_net l.flow) (members l.resources) (g.S.PlaceSet.places l.out) l.row l.end;
  grown : HaveGrown (g.S.PlaceSet.places l.fn.out) (g.S.PlaceSet.places l.out) l.fn.row l.row l.fn.start l.end;
  within : l.next ≤ length l.flow.edges;
  here : (k : ℕ) → l.next ≡ suc k → slice_get (targets_of l.flow.edges) k ≡ Some l.point;
  before : (k : ℕ) (e : Edge) → l.next ≤ k → slice_get l.flow.edges k ≡ Some e → e.to ≡ l.point → IsSourceMarked (members l.resources) (g.S.PlaceSet.places l.out) e;
}

abbrev pub decreases-loop-next : goal.decreases-loop-next
decreases-loop-next g l = l.next
