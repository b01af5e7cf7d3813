use Rattle.std.proofs.Common.{◌≡◌, ◌++◌, drop}
use Rattle.std.specs.List.{flat_map}
use Rattle.c_tree.specs.Lined.{bare_slot}
use Rattle.c_canonical.specs.Programs.{slot}
use Rattle.c_layout.specs.Layout.{text}
use Rattle.c_print.proofs.programs.slots.Given as goal

-- what is added and what is left make the whole
abbrev pub invariant-loop-t : goal.invariant-loop-t
invariant-loop-t l = l.out.items ++ text (flat_map (λ t. slot (bare_slot t)) (drop l.t-index l.ts)) ≡ l.fn.out.items ++ text (flat_map (λ t. slot (bare_slot t)) l.ts)
