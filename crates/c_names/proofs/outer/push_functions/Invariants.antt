use Rattle.std.proofs.Common.{ℕ, List, ◌≡◌, drop, map, ◌++◌}
use Rattle.std.specs.List.{enumerate_from}
use Rattle.c_tree.specs.Lined.{function_of}
use Rattle.c_rules.specs.Declarations as spec
use Rattle.c_names.specs.Shown.{all_shown}
use Rattle.c_names.proofs.outer.push_functions.Given as goal

-- the place is that of the next function, and what is left to push leads to what is pushed in all
pub record Pushes (place index : ℕ) (now all : List spec.Declaration) : Type 0 where
  pub here : place ≡ index
  pub pushed : now ≡ all

abbrev pub invariant-loop-f : goal.invariant-loop-f
invariant-loop-f l =
    Pushes l.place l.f-index (all_shown l.out.items ++ map spec.of_function (enumerate_from l.place (map function_of (drop l.f-index l.functions))))
    (all_shown l.initial.out.items ++ map spec.of_function (enumerate_from 0 (map function_of l.functions)))
