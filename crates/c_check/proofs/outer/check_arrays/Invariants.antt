use Rattle.std.proofs.Common.{◌≡◌, drop}
use Rattle.std.specs.Prelude.{flat_map}
use Rattle.c_acts.specs.First.{noted_all}
use Rattle.c_check.specs.Outer as spec
use Rattle.c_check.proofs.outer.check_arrays.Given as goal

-- what those that are left break leads to what all break
abbrev pub invariant-loop-a : goal.invariant-loop-a
invariant-loop-a l = noted_all l.first (flat_map spec.array_breaks (drop l.a-index l.arrays)) ≡ noted_all l.fn.first (flat_map spec.array_breaks l.arrays)
