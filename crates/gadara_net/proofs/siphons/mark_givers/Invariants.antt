use Rattle.std.proofs.Common.{◌≡◌, ℕ, ◌<◌, Some}
use Rattle.std.specs.Prelude.{slice_get}
use Rattle.edges.specs.declared.Edge.{Edge}
use Rattle.net_laws.specs.Candidates.{members}
use Rattle.gadara_net.specs.Flows.{flow_net}
use Rattle.gadara_net.specs.Marks.{AreMarked, IsGiverMarked}
use Rattle.gadara_net.proofs.siphons.mark_givers.Given as goal

abbrev pub invariant-loop-edge : goal.invariant-loop-edge
invariant-loop-edge g l = record {
  bound : g.S.PlaceSet.bound l.out ≡ g.S.PlaceSet.bound l.fn.out;
  marked : AreMarked (flow_net l.flow) (members l.resources) (g.S.PlaceSet.places l.out) l.row l.end;
  givers : (k : ℕ) (e : Edge) → k < l.edge-index → slice_get l.flow.edges k ≡ Some e → IsGiverMarked (members l.resources) (g.S.PlaceSet.places l.out) e;
}
