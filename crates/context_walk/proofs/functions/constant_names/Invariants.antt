use Rattle.std.proofs.Common.{◌≡◌, ℕ, List, ◌++◌, drop}
use Rattle.std.specs.Prelude.{◌||◌, ◌&&◌, not}
use Rattle.contexts.specs.Constants.{among}
use Rattle.context_locals.specs.Known.{is_in}
use Rattle.context_locals.specs.Writes.{writes_in}
use Rattle.context_walk.specs.Shown.{shown_items}
use Rattle.context_walk.specs.Steps.{declared_in}
use Rattle.context_walk.proofs.functions.constant_names.Given as goal

-- the names so far and what is left to declare are the names in the end
abbrev pub invariant-loop-item : goal.invariant-loop-item
invariant-loop-item l = (q : List ℕ)
    → (is_in l.names q || (among (declared_in (shown_items (drop l.item-index l.items))) q && not (writes_in l.writes q))) ≡ (among (l.f.params ++ declared_in (shown_items l.items)) q && not (writes_in l.writes q))
