use Rattle.std.proofs.Common.{◌≡◌, ◌<◌, ℕ, Some}
use Rattle.std.specs.Prelude.{slice_get}
use Rattle.gadara_net.specs.Flows.{flow_net}
use Rattle.coverage.specs.Bad.{HasSimpleLine}
use Rattle.coverage.proofs.bad.first_without_line.Given as goal

abbrev pub invariant-loop-k : goal.invariant-loop-k
invariant-loop-k g l = record {
  size : g.S.PlaceSet.bound l.scratch ≡ g.S.PlaceSet.bound l.fn.scratch;
  work : l.work ≡ l.fn.work;
  lines : (j Q : ℕ) → j < l.k → slice_get l.room.sets j ≡ Some Q → HasSimpleLine (flow_net l.net) Q;
}
