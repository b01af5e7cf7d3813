use Rattle.std.proofs.Common.{◌≡◌, ℕ, ◌+◌, ◌<◌, slice_index}
use Rattle.edges.specs.Ops.{takes, gives}
use Rattle.net_laws.specs.Net.{one}
use Rattle.flow_checks.proofs.edge.accounts.Given as goal

abbrev pub invariant-loop-r : goal.invariant-loop-r
invariant-loop-r l = (k : ℕ) → k < l.r → slice_index l.behind k + one (gives l.op k) ≡ slice_index l.before k + one (takes l.op k)
