use Rattle.std.proofs.Common.{◌≡◌, ℕ, ◌<◌, Some}
use Rattle.std.specs.Prelude.{slice_get}
use Rattle.certificate.specs.declared.Line.{Line}
use Rattle.net_laws.specs.Lines.{Holds}
use Rattle.gadara_net.specs.Flows.{flow_net}
use Rattle.certificate_check.proofs.judging.first_failing.Given as goal

abbrev pub invariant-loop-k : goal.invariant-loop-k
invariant-loop-k g l = record {
  size : g.S.PlaceSet.bound l.scratch ≡ g.S.PlaceSet.bound l.fn.scratch;
  room : l.work ≡ l.fn.work;
  hold : (j : ℕ) (line : Line) → j < l.k → slice_get l.lines j ≡ Some line → Holds (flow_net l.net) line;
}
