use Rattle.std.proofs.Common.{◌≡◌, ◌++◌, take, flat_map}
use Rattle.state_parts.specs.Starting.{bare_values}
use Rattle.state_parts.proofs.starting.push_arrays.Given as goal

abbrev pub invariant-loop-a : goal.invariant-loop-a
invariant-loop-a l = l.all.items ≡ l.fn.all.items ++ flat_map bare_values (take l.a-index l.arrays)
