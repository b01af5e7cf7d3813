use Rattle.std.proofs.Common.{◌≡◌, drop, map}
use Rattle.c_check.specs.Tables as spec
use Rattle.c_check.proofs.table.resource_among.Given as goal

-- none of those so far has the name
abbrev pub invariant-loop-m : goal.invariant-loop-m
invariant-loop-m l = spec.resource_in (map spec.numbered_of (drop l.m-index l.mutexes)) l.name l.index ≡ spec.resource_in (map spec.numbered_of l.mutexes) l.name l.index
