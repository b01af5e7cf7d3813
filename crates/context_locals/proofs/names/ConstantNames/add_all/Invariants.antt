use Rattle.std.proofs.Common.{◌≡◌, ℕ, List, drop}
use Rattle.std.specs.Prelude.{◌||◌, ◌&&◌, not}
use Rattle.contexts.specs.Constants.{among}
use Rattle.context_locals.specs.Known.{is_in}
use Rattle.context_locals.specs.Writes.{writes_in}
use Rattle.context_locals.proofs.names.ConstantNames.add_all.Given as goal

-- the names so far and those that are left are the names in the end
abbrev pub invariant-loop-name : goal.invariant-loop-name
invariant-loop-name l =
    (q : List ℕ) → (is_in l.self q || (among (drop l.name-index l.names) q && not (writes_in l.writes q))) ≡ (is_in l.fn.self q || (among l.names q && not (writes_in l.writes q)))
