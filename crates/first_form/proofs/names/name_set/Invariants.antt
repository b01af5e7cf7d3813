use Rattle.std.proofs.Common.{take, map}
use Rattle.first_form.specs.Sets.{Knows}
use Rattle.first_form.proofs.names.name_set.Given as goal

-- the set has the names so far
abbrev pub invariant-loop-item : goal.invariant-loop-item
invariant-loop-item g l = Knows l.set (map g.T.Named.name_of (take l.item-index l.items))
