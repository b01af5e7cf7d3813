use Rattle.std.proofs.Common.{◌≡◌, ℕ, ◌<◌, Some}
use Rattle.std.specs.Prelude.{slice_get}
use Rattle.certificate.specs.declared.Part.{Part}
use Rattle.net_laws.specs.Lines.{IsPartOf}
use Rattle.gadara_net.specs.Flows.{flow_net}
use Rattle.gadara_net.proofs.bounds.are_named.Given as goal

abbrev pub invariant-loop-part : goal.invariant-loop-part
invariant-loop-part l = (k : ℕ) (x : Part) → k < l.part-index → slice_get l.parts k ≡ Some x → IsPartOf (flow_net l.flow) x.of
