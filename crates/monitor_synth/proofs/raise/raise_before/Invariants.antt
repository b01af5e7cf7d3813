use Rattle.std.proofs.Common.{◌≡◌, ℕ, ◌<◌, ◌≤◌, Some, length}
use Rattle.std.specs.Prelude.{All, IsTrue, slice_get, slice_index}
use Rattle.edges.specs.declared.Edge.{Edge}
use Rattle.gadara_net.specs.Flows.{flow_net}
use Rattle.weight_laws.specs.Weights.{follows}
use Rattle.monitor_synth.specs.Raised.{AreReached, HaveRisen, work_left}
use Rattle.monitor_synth.proofs.Rising.{after}
use Rattle.monitor_synth.proofs.raise.raise_before.Given as goal

abbrev pub invariant-loop-next : goal.invariant-loop-next
invariant-loop-next l = record {
  level : slice_index l.moved l.point ≡ l.level;
  here : (k : ℕ) → l.next ≡ Some k → (k < length l.n.edges) × ((e : Edge) → slice_get l.n.edges k ≡ Some e → e.to ≡ l.point);
  done : (k : ℕ) (e : Edge) → after l.next ≤ k → slice_get l.n.edges k ≡ Some e → e.to ≡ l.point → IsTrue (follows (flow_net l.n) e) → l.level ≤ slice_index l.moved e.from;
  risen : HaveRisen (slice_index l.fn.moved) (slice_index l.moved) l.fn.todo.items l.todo.items;
  reached : (w : ℕ → ℕ) → AreReached (flow_net l.n) w (slice_index l.fn.moved) → AreReached (flow_net l.n) w (slice_index l.moved);
  below : All (λ p. p < length l.n.points) l.todo.items;
  less : work_left l.moved l.todo.items ≤ work_left l.fn.moved l.fn.todo.items;
}

abbrev pub decreases-loop-next : goal.decreases-loop-next
decreases-loop-next l = after l.next
