use Rattle.std.proofs.Common.{◌≡◌, ℕ, List, drop}
use Rattle.std.specs.Prelude.{◌||◌}
use Rattle.c_names.specs.Tables.{in_scope}
use Rattle.contexts.specs.Constants.{among}
use Rattle.context_locals.specs.Writes.{int_texts}
use Rattle.context_locals.proofs.written.int_names.Given as goal

-- the names so far and those that are left are all
abbrev pub invariant-loop-c : goal.invariant-loop-c
invariant-loop-c l = (q : List ℕ) → (in_scope l.names q || among (int_texts (drop l.c-index l.ints)) q) ≡ among (int_texts l.ints) q
