use Rattle.std.proofs.Common.{◌≡◌, drop, map}
use Rattle.std.specs.Prelude.{flat_map}
use Rattle.c_tree.specs.Lined.{function_of}
use Rattle.c_acts.specs.First.{noted_all}
use Rattle.c_check.specs.Outer as spec
use Rattle.c_check.proofs.outer.check_long_names.Given as goal

-- what those that are left break leads to what all break
abbrev pub invariant-loop-f : goal.invariant-loop-f
invariant-loop-f l = noted_all l.first (flat_map (spec.length_breaks l.mode) (map function_of (drop l.f-index l.functions))) ≡ noted_all l.fn.first (flat_map (spec.length_breaks l.mode) (map function_of l.functions))
