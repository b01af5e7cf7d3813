use Rattle.std.proofs.Common.{◌≡◌, ℕ, List, drop}
use Rattle.std.specs.Prelude.{◌||◌}
use Rattle.c_names.specs.Tables.{in_scope}
use Rattle.contexts.specs.Constants.{among}
use Rattle.context_locals.proofs.Collecting.{left_written}
use Rattle.context_locals.proofs.written.+written.Given as goal

-- the names so far and what is left to write into are the names in the end
abbrev pub invariant-add_all_written-loop-s : goal.invariant-add_all_written-loop-s
invariant-add_all_written-loop-s l =
    (q : List ℕ) → (in_scope l.names q || among (left_written (drop l.s-index l.ss)) q) ≡ (in_scope l.fn.names q || among (left_written l.ss) q)
