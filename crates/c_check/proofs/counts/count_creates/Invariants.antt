use Rattle.std.proofs.Common.{◌≡◌, ℕ, ◌+◌, ◌≤◌, drop}
use Rattle.c_tree.specs.Lined.{stmts_of}
use Rattle.c_check.specs.Tables as spec
use Rattle.c_check.proofs.counts.count_creates.Given as goal

-- those counted and those left are all of them
pub record Counts (count index left all : ℕ) : Type 0 where
  pub small : count ≤ index
  pub counted : count + left ≡ all

abbrev pub invariant-loop-s : goal.invariant-loop-s
invariant-loop-s l = Counts l.count l.s-index (spec.count_creates (stmts_of (drop l.s-index l.body))) (spec.count_creates (stmts_of l.body))
