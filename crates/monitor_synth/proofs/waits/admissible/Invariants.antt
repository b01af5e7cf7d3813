use Rattle.std.proofs.Common.{◌≡◌, ℕ, ◌<◌}
use Rattle.std.specs.Prelude.{IsTrue, slice_index}
use Rattle.gadara_net.specs.Flows.{flow_net}
use Rattle.monitor_synth.proofs.waits.admissible.Given as goal

abbrev pub invariant-loop-p : goal.invariant-loop-p
invariant-loop-p l = (q : ℕ) → q < l.p → IsTrue ((flow_net l.n).waiting q) → slice_index l.m q ≡ 0
