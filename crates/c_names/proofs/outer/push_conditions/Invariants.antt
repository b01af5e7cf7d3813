use Rattle.std.proofs.Common.{◌≡◌, take, map, ◌++◌}
use Rattle.c_rules.specs.Declarations as spec
use Rattle.c_names.specs.Shown.{all_shown}
use Rattle.c_names.proofs.outer.push_conditions.Given as goal

-- the declarations so far stand behind the others
abbrev pub invariant-loop-c : goal.invariant-loop-c
invariant-loop-c l = all_shown l.out.items ≡ all_shown l.initial.out.items ++ map spec.of_condition (take l.c-index l.conditions)
