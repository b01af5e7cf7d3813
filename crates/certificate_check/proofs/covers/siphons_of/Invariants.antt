use Rattle.std.proofs.Common.{◌≡◌, ℕ, Some, length}
use Rattle.std.specs.Prelude.{slice_get}
use Rattle.certificate.specs.declared.Line.{Line}
use Rattle.gadara_net.specs.Flows.{flow_net}
use Rattle.certificate_check.specs.Covering.{IsSiphonOf}
use Rattle.certificate_check.proofs.covers.siphons_of.Given as goal

abbrev pub invariant-loop-line : goal.invariant-loop-line
invariant-loop-line g l = record {
  room : l.work ≡ l.fn.work;
  each : length l.siphons.items ≡ l.line-index;
  are : (k : ℕ) (line : Line) (s : _) → slice_get l.lines k ≡ Some line → slice_get l.siphons.items k ≡ Some s
      → IsSiphonOf (flow_net l.net) line.resources (g.S.PlaceSet.bound s) (g.S.PlaceSet.places s);
}
