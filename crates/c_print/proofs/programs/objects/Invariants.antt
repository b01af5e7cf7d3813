use Rattle.std.proofs.Common.{◌≡◌, ◌++◌, drop}
use Rattle.std.specs.List.{flat_map}
use Rattle.c_tree.specs.Lined.{bare_object}
use Rattle.c_canonical.specs.Programs.{object}
use Rattle.c_layout.specs.Layout.{text}
use Rattle.c_print.proofs.programs.objects.Given as goal

-- what is added and what is left make the whole
abbrev pub invariant-loop-o : goal.invariant-loop-o
invariant-loop-o l = l.out.items ++ text (flat_map (λ o. object l.kind l.initialiser (bare_object o)) (drop l.o-index l.os)) ≡ l.fn.out.items ++ text (flat_map (λ o. object l.kind l.initialiser (bare_object o)) l.os)
