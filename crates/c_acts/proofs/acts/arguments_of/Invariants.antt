use Rattle.std.proofs.Common.{◌≡◌, ℕ, ◌+◌, ◌≤◌, drop}
use Rattle.std.specs.Prelude.{false}
use Rattle.c_rules.specs.Using as spec
use Rattle.c_acts.proofs.acts.arguments_of.Given as goal

-- those counted and those left are all of them
pub record Counts (count index left all : ℕ) : Type 0 where
  pub small : count ≤ index
  pub counted : count + left ≡ all

abbrev pub invariant-loop-b : goal.invariant-loop-b
invariant-loop-b l = Counts l.count l.b-index (spec.arguments_of l.behind_percent (drop l.b-index l.format)) (spec.arguments_of false l.format)
