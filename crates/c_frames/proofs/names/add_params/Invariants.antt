use Rattle.std.proofs.Common.{◌≡◌, ℕ, List, drop}
use Rattle.std.specs.Prelude.{◌||◌}
use Rattle.c_frames.specs.Names.{is_among, key_texts}
use Rattle.c_frames.proofs.names.add_params.Given as goal

-- the names so far and the parameters that are left are the names in the end
abbrev pub invariant-loop-name : goal.invariant-loop-name
invariant-loop-name l =
    (q : List ℕ) → (is_among (key_texts l.names) q || is_among (drop l.name-index l.params) q) ≡ (is_among (key_texts l.fn.names) q || is_among l.params q)
