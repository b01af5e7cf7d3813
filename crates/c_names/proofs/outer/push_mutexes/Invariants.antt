use Rattle.std.proofs.Common.{◌≡◌, take, map, ◌++◌}
use Rattle.c_rules.specs.Declarations as spec
use Rattle.c_names.specs.Shown.{all_shown}
use Rattle.c_names.proofs.outer.push_mutexes.Given as goal

-- the declarations so far stand behind the others
abbrev pub invariant-loop-m : goal.invariant-loop-m
invariant-loop-m l = all_shown l.out.items ≡ all_shown l.initial.out.items ++ map spec.of_mutex (take l.m-index l.mutexes)
