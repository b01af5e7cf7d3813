use Rattle.std.proofs.Common.{◌≡◌, take, map, ◌++◌}
use Rattle.c_rules.specs.Declarations as spec
use Rattle.c_names.specs.Shown.{all_shown}
use Rattle.c_names.proofs.outer.push_arrays.Given as goal

-- the declarations so far stand behind the others
abbrev pub invariant-loop-a : goal.invariant-loop-a
invariant-loop-a l = all_shown l.out.items ≡ all_shown l.initial.out.items ++ map spec.of_array (take l.a-index l.arrays)
