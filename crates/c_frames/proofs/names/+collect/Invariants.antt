use Rattle.std.proofs.Common.{◌≡◌, ℕ, List}
use Rattle.std.specs.Prelude.{◌||◌}
use Rattle.c_frames.specs.Names.{is_among, is_set, key_texts}
use Rattle.c_frames.specs.Positions.{from}
use Rattle.c_meaning.specs.Shown.{shown_body}
use Rattle.c_frames.proofs.names.+collect.Given as goal

-- the names so far and what the statements that are left give values are the names in the end
abbrev pub invariant-add_targets-loop-s : goal.invariant-add_targets-loop-s
invariant-add_targets-loop-s l =
    (q : List ℕ) → (is_among (key_texts l.names) q || is_set q (from l.s-index (shown_body l.ss))) ≡ (is_among (key_texts l.fn.names) q || is_set q (shown_body l.ss))
