use Rattle.std.proofs.Common.{◌≡◌, ◌+◌, length}
use Rattle.net_rows.proofs.measure.siphons.Given as goal

abbrev pub invariant-loop : goal.invariant-loop
invariant-loop l = record {
  size : l.out.size ≡ length l.net.points + length l.net.tokens;
  room : l.work ≡ length l.net.points;
}
