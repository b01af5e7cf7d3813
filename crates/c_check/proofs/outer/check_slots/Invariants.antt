use Rattle.std.proofs.Common.{◌≡◌, drop}
use Rattle.std.specs.Prelude.{flat_map}
use Rattle.c_acts.specs.First.{noted_all}
use Rattle.c_check.specs.Outer as spec
use Rattle.c_check.proofs.outer.check_slots.Given as goal

-- what those that are left break leads to what all break
abbrev pub invariant-loop-t : goal.invariant-loop-t
invariant-loop-t l = noted_all l.first (flat_map spec.slot_breaks (drop l.t-index l.slots)) ≡ noted_all l.fn.first (flat_map spec.slot_breaks l.slots)
