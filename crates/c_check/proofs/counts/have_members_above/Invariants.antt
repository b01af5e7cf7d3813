use Rattle.std.proofs.Common.{◌≡◌, ℕ, ◌+◌, ◌≤◌, drop}
use Rattle.std.specs.Prelude.{sum_by}
use Rattle.c_check.proofs.counts.have_members_above.Given as goal

-- the total so far isn't too large, and it and what is left make the whole
pub record Totals (total most left all : ℕ) : Type 0 where
  pub small : total ≤ most
  pub counted : total + left ≡ all

abbrev pub invariant-loop-a : goal.invariant-loop-a
invariant-loop-a l = Totals l.total l.most (sum_by (λ x. x.len) (drop l.a-index l.arrays)) (sum_by (λ x. x.len) l.arrays)
