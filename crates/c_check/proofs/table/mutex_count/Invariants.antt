use Rattle.std.proofs.Common.{◌≡◌, ◌+◌, drop}
use Rattle.std.specs.Prelude.{sum_by}
use Rattle.c_check.specs.Tables as spec
use Rattle.c_check.proofs.table.mutex_count.Given as goal

-- the total and what is left make the whole
abbrev pub invariant-loop-m : goal.invariant-loop-m
invariant-loop-m l = l.total + sum_by spec.object_count (drop l.m-index l.mutexes) ≡ sum_by spec.object_count l.mutexes
