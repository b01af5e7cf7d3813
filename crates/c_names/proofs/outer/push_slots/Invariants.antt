use Rattle.std.proofs.Common.{◌≡◌, take, map, ◌++◌}
use Rattle.c_rules.specs.Declarations as spec
use Rattle.c_names.specs.Shown.{all_shown}
use Rattle.c_names.proofs.outer.push_slots.Given as goal

-- the declarations so far stand behind the others
abbrev pub invariant-loop-t : goal.invariant-loop-t
invariant-loop-t l = all_shown l.out.items ≡ all_shown l.initial.out.items ++ map spec.of_slot (take l.t-index l.slots)
