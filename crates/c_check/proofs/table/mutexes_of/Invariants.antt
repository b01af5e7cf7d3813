use Rattle.std.proofs.Common.{◌≡◌, ℕ, ◌+◌, List, drop, map, ◌++◌}
use Rattle.std.specs.Prelude.{sum_by}
use Rattle.c_tree.specs.Lined.{bare_object}
use Rattle.c_check.specs.Tables as spec
use Rattle.c_check.proofs.table.mutexes_of.Given as goal

-- the numbered ones and those that are left, behind so many, are all of them
pub record Numbers (total left sum : ℕ) (done rest all : List spec.Numbered) : Type 0 where
  pub counted : total + left ≡ sum
  pub numbered : done ++ rest ≡ all

abbrev pub invariant-loop-m : goal.invariant-loop-m
invariant-loop-m l =
    Numbers l.total (sum_by spec.object_count (drop l.m-index l.mutexes)) (sum_by spec.object_count l.mutexes)
    (map spec.numbered_of l.all.items) (spec.numbered_from l.total (map bare_object (drop l.m-index l.mutexes))) (spec.numbered_from 0 (map bare_object l.mutexes))
