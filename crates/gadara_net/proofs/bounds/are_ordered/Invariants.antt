use Rattle.std.proofs.Common.{◌≡◌, ℕ, suc, ◌<◌, Some}
use Rattle.std.specs.Prelude.{slice_get}
use Rattle.certificate.specs.declared.Part.{Part}
use Rattle.net_laws.specs.Lines.{Precedes}
use Rattle.gadara_net.proofs.bounds.are_ordered.Given as goal

abbrev pub invariant-loop-i : goal.invariant-loop-i
invariant-loop-i l = (k : ℕ) (x y : Part) → suc k < l.i → slice_get l.parts k ≡ Some x → slice_get l.parts (suc k) ≡ Some y → Precedes x.of y.of
