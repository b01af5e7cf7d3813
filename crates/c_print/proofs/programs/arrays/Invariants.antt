use Rattle.std.proofs.Common.{◌≡◌, ◌++◌, drop}
use Rattle.std.specs.List.{flat_map}
use Rattle.c_tree.specs.Lined.{bare_array}
use Rattle.c_canonical.specs.Programs.{array}
use Rattle.c_layout.specs.Layout.{text}
use Rattle.c_print.proofs.programs.arrays.Given as goal

-- what is added and what is left make the whole
abbrev pub invariant-loop-a : goal.invariant-loop-a
invariant-loop-a l = l.out.items ++ text (flat_map (λ a. array (bare_array a)) (drop l.a-index l.arrays)) ≡ l.fn.out.items ++ text (flat_map (λ a. array (bare_array a)) l.arrays)
