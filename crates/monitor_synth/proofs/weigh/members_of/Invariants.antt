use Rattle.std.proofs.Common.{◌≡◌, ℕ, ◌<◌, ◌≤◌, length, sum_by}
use Rattle.std.specs.Prelude.{All, IsTrue}
use Rattle.net_laws.specs.Candidates.{members}
use Rattle.net_laws.specs.Lines.{total}
use Rattle.monitor_synth.proofs.weigh.members_of.Given as goal

abbrev pub invariant-loop-r : goal.invariant-loop-r
invariant-loop-r l = record {
  below : All (λ q. q < length l.n.tokens) l.list.items;
  named : All (λ q. IsTrue (members l.resources q)) l.list.items;
  few : length l.list.items ≤ l.r;
  sums : (f : ℕ → ℕ) → sum_by f l.list.items ≡ total l.r (members l.resources) f;
}
