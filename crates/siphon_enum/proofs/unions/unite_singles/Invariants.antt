use Rattle.std.proofs.Common.{◌≡◌}
use Rattle.gadara_net.specs.Flows.{flow_net}
use Rattle.siphon_enum.specs.Rows.{HoldsSingles}
use Rattle.siphon_enum.proofs.unions.unite_singles.Given as goal

abbrev pub invariant-loop-r : goal.invariant-loop-r
invariant-loop-r g l = record {
  size : g.S.PlaceSet.bound l.union ≡ g.S.PlaceSet.bound l.fn.union;
  scratch : g.S.PlaceSet.bound l.scratch ≡ g.S.PlaceSet.bound l.fn.scratch;
  room : l.work ≡ l.fn.work;
  singles : HoldsSingles (flow_net l.net) l.r (g.S.PlaceSet.places l.union);
}
