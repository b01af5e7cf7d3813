use Rattle.std.proofs.Common.{◌≡◌, ℕ, drop, map}
use Rattle.std.specs.declared.option.Option.{Option}
use Rattle.std.specs.List.{enumerate_from}
use Rattle.c_tree.specs.Lined.{function_of}
use Rattle.c_names.specs.Tables.{meant}
use Rattle.c_acts.specs.declared.first.Break.{Break}
use Rattle.c_acts.specs.First.{noted_all}
use Rattle.c_check.specs.Functions.{functions_breaks}
use Rattle.c_check.proofs.functions.check_functions.Given as goal

-- the place is that of the next function, and what is left breaks what leads to all
pub record Places (place index : ℕ) (now all : Option Break) : Type 0 where
  pub here : place ≡ index
  pub breaks : now ≡ all

abbrev pub invariant-loop-function : goal.invariant-loop-function
invariant-loop-function l =
    Places l.place l.function-index
    (noted_all l.first (functions_breaks (meant l.names) l.mode l.monitors (enumerate_from l.place (map function_of (drop l.function-index l.functions)))))
    (noted_all l.fn.first (functions_breaks (meant l.names) l.mode l.monitors (enumerate_from 0 (map function_of l.functions))))
