-- The functions of a program by their places, as a call in one of them sees those above.
use Rattle.std.specs.Prelude.{ℕ, ℤ, if◌then◌else◌, List, [], reverse, take, slice_get, None, option_map, unwrap_or}
use Rattle.std.specs.declared.option.Option.{Option}
use Rattle.std.specs.List.{enumerate_from}
use Rattle.c_tree.specs.Lined.{Function, Program, bare_program}
use Rattle.rule_facts.specs.FromLast.{function_in}
use Rattle.contexts.specs.Resolved.{writes_of}
use Rattle.contexts.specs.Walk.{Walked}
use Rattle.context_items.specs.Flat.{FlatAbove, FlatScene, flat_above, flat_entered}
use Rattle.context_items.specs.Items.{Item, items_all}
use Rattle.context_items.specs.Marks.{Mark}

-- the first functions with their places, the last first
abbrev pub first_functions : ℕ → Program → List (ℕ × Function)
first_functions k p = reverse (enumerate_from 0 (take k p.functions))

-- what is known above a place
abbrev pub above_at : Program → ℕ → FlatAbove
above_at p k = flat_above (bare_program p) (first_functions k p)

-- the place of the last function of a name above a place
abbrev pub place_at : Program → ℕ → List ℕ → Option ℕ
place_at p k name = option_map (λ f. f.0) (function_in (first_functions k p) name)

-- the place of the function that a call enters: none where it bears no locks
abbrev pub callee_at : Program → ℕ → List ℕ → Option ℕ
callee_at p k name = if (above_at p k).bears name then place_at p k name else None

abbrev pub items_of : Function → List Item
items_of f = items_all f.body []

-- the names under which no local of the function at a place is constant
abbrev pub writes_at : Program → ℕ → List (List ℕ)
writes_at p k = unwrap_or (option_map (writes_of (bare_program p)) (slice_get p.functions k)) []

-- the function at a place, as it is walked
abbrev pub scene_at : Program → ℕ → FlatScene
scene_at p k = record { program = bare_program p; above = above_at p k; writes = writes_at p k }

-- a function at a place, entered with these arguments behind these contexts
abbrev pub entered_at : Program → ℕ → Function → List (Option ℤ) → List ℕ → Walked (List Mark)
entered_at p k f args n = flat_entered (bare_program p) (above_at p k) (k, f) args n
