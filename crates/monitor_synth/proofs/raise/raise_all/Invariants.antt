use Rattle.std.proofs.Common.{ℕ, ◌<◌, length}
use Rattle.std.specs.Prelude.{All, slice_index}
use Rattle.gadara_net.specs.Flows.{flow_net}
use Rattle.monitor_synth.specs.Raised.{AreReached, AreSettledBut, work_left}
use Rattle.monitor_synth.proofs.raise.raise_all.Given as goal

abbrev pub invariant-loop-point : goal.invariant-loop-point
invariant-loop-point l = record {
  reached : (w : ℕ → ℕ) → AreReached (flow_net l.n) w (slice_index l.fn.moved) → AreReached (flow_net l.n) w (slice_index l.moved);
  settled : AreSettledBut (flow_net l.n) (slice_index l.moved) l.todo.items;
  below : All (λ p. p < length l.n.points) l.todo.items;
}

abbrev pub decreases-loop-point : goal.decreases-loop-point
decreases-loop-point l = work_left l.moved l.todo.items
