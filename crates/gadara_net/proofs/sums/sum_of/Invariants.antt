use Rattle.std.proofs.Common.{◌≡◌, ◌*◌, ◌^◌, ◌≤◌}
use Rattle.std.specs.Prelude.{slice_index}
use Rattle.net_laws.specs.Candidates.{members}
use Rattle.net_laws.specs.Lines.{total}
use Rattle.gadara_net.proofs.sums.sum_of.Given as goal

abbrev pub invariant-loop-r : goal.invariant-loop-r
invariant-loop-r l = record {
  sum : l.sum ≡ total l.r (members l.resources) (slice_index l.counts);
  small : l.sum ≤ l.r * 2 ^ 32;
}
