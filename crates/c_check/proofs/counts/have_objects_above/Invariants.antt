use Rattle.std.proofs.Common.{◌≡◌, ℕ, ◌+◌, ◌≤◌, drop}
use Rattle.std.specs.Prelude.{sum_by}
use Rattle.c_check.specs.Tables as spec
use Rattle.c_check.proofs.counts.have_objects_above.Given as goal

-- the total so far isn't too large, and it and what is left make the whole
pub record Totals (total most left all : ℕ) : Type 0 where
  pub small : total ≤ most
  pub counted : total + left ≡ all

abbrev pub invariant-loop-o : goal.invariant-loop-o
invariant-loop-o l = Totals l.total l.most (sum_by spec.object_count (drop l.o-index l.objects)) (sum_by spec.object_count l.objects)
