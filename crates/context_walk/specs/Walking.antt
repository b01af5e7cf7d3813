-- A walk step by step.
use Rattle.std.specs.Prelude.{◌≡◌, ℕ, ℤ, List, ◌++◌, slice_get, Some}
use Rattle.std.specs.declared.option.Option.{Option}
use Rattle.c_tree.specs.Lined.{Function, Program}
use Rattle.contexts.specs.Walk.{Walked, Found, then_walk}
use Rattle.context_items.specs.Flat.{flat}
use Rattle.context_items.specs.Items.{Item}
use Rattle.context_items.specs.Marks.{Mark}
use Rattle.context_locals.specs.declared.known.Known.{Known}
use Rattle.context_locals.specs.Known.{known_of, outers_of}
use Rattle.context_walk.specs.declared.marks.Contexts.{Contexts}
use Rattle.context_walk.specs.declared.marks.ContextError.{ContextError}
use Rattle.context_walk.specs.Found.{marks_in, contexts_of, Finds, IsRefusal}
use Rattle.context_walk.specs.Places.{entered_at, scene_at}

-- a walk finds what was found since, and then what another one finds
pub record Continues (w rest : Walked (List Mark)) (old new : Contexts) : Type 0 where
  pub marks : List Mark
  pub grown : marks_in new ≡ marks_in old ++ marks
  pub found : w ≡ then_walk rest (λ more k. Found (marks ++ more) k)

-- the walk of the function at a place along items, from what is known there and was found before
abbrev pub along : Program → ℕ → Known → List Item → Contexts → Walked (List Mark)
along p k known items found = flat (scene_at p k) (known_of known) (outers_of known) items (contexts_of found)

-- the function at a place is entered with these arguments, and its walk finds what was found since
abbrev pub FindsEntered : Program → ℕ → List (Option ℤ) → Contexts → Contexts → Type 0
FindsEntered p k args old new = (f : Function) → slice_get p.functions k ≡ Some f → Finds (entered_at p k f args (contexts_of old)) old new

-- its walk is refused so
abbrev pub IsEntryRefused : Program → ℕ → List (Option ℤ) → Contexts → ContextError → Type 0
IsEntryRefused p k args old e = (f : Function) → slice_get p.functions k ≡ Some f → IsRefusal e (entered_at p k f args (contexts_of old))
