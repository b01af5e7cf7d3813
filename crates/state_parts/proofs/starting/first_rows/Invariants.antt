use Rattle.std.proofs.Common.{◌≡◌, take, map, replicate}
use Rattle.state_parts.proofs.starting.first_rows.Given as goal

abbrev pub invariant-loop-capacity : goal.invariant-loop-capacity
invariant-loop-capacity l = map (λ row. row.items) l.all.items ≡ map (λ capacity. replicate l.threads 0) (take l._capacity-index l.monitors)
