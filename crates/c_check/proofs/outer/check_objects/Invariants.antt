use Rattle.std.proofs.Common.{◌≡◌, drop}
use Rattle.std.specs.Prelude.{flat_map}
use Rattle.c_acts.specs.First.{noted_all}
use Rattle.c_check.specs.Outer as spec
use Rattle.c_check.proofs.outer.check_objects.Given as goal

-- what those that are left break leads to what all break
abbrev pub invariant-loop-o : goal.invariant-loop-o
invariant-loop-o l = noted_all l.first (flat_map spec.object_breaks (drop l.o-index l.objects)) ≡ noted_all l.fn.first (flat_map spec.object_breaks l.objects)
