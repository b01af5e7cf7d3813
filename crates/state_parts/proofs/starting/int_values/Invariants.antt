use Rattle.std.proofs.Common.{◌≡◌, take, map}
use Rattle.state_parts.proofs.starting.int_values.Given as goal

abbrev pub invariant-loop-c : goal.invariant-loop-c
invariant-loop-c l = l.all.items ≡ map (λ c. c.value) (take l.c-index l.ints)
