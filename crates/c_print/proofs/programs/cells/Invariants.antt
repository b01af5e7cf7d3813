use Rattle.std.proofs.Common.{◌≡◌, ◌++◌, drop}
use Rattle.std.specs.List.{flat_map}
use Rattle.c_tree.specs.Lined.{bare_cell}
use Rattle.c_canonical.specs.Programs.{cell}
use Rattle.c_layout.specs.Layout.{text}
use Rattle.c_print.proofs.programs.cells.Given as goal

-- what is added and what is left make the whole
abbrev pub invariant-loop-c : goal.invariant-loop-c
invariant-loop-c l = l.out.items ++ text (flat_map (λ c. cell (bare_cell c)) (drop l.c-index l.cs)) ≡ l.fn.out.items ++ text (flat_map (λ c. cell (bare_cell c)) l.cs)
