-- What a walk has found, as its code keeps it.
use Rattle.std.specs.Prelude.{◌≡◌, ℕ, List, ◌++◌, map, reverse, ⊤}
use Rattle.outlines.specs.Outline.{Thread}
use Rattle.contexts.specs.Walk.{Walked, Found, Unresolved, TooMany}
use Rattle.context_items.specs.Marks as spec
use Rattle.context_items.specs.Marks.{marks_of}
use Rattle.context_walk.specs.declared.marks.Mark as declared_mark
use Rattle.context_walk.specs.declared.marks.Mark.TheVariants as declared
use Rattle.context_walk.specs.declared.marks.Contexts.{Contexts}
use Rattle.context_walk.specs.declared.marks.ContextError.{ContextError}
use Rattle.context_walk.specs.declared.marks.ContextError.TheVariants.{LockNotResolved, TooManyContexts, Memory}

abbrev pub shown_mark : declared_mark.Mark → spec.Mark
shown_mark (declared.Resource resource) = spec.Resource resource
shown_mark (declared.Enters context) = spec.Enters context

abbrev pub marks_in : Contexts → List spec.Mark
marks_in c = map shown_mark c.marks.items

-- the places of the contexts' functions, the last first
abbrev pub contexts_of : Contexts → List ℕ
contexts_of c = reverse c.functions.items

-- a walk finds what was found since: these marks, and contexts up to the newer ones
pub record Finds (w : Walked (List spec.Mark)) (old new : Contexts) : Type 0 where
  pub marks : List spec.Mark
  pub grown : marks_in new ≡ marks_in old ++ marks
  pub found : w ≡ Found marks (contexts_of new)

-- a walk is refused so; for want of memory any may be
abbrev pub IsRefusal : {X : Type 0} → ContextError → Walked X → Type 0
IsRefusal (LockNotResolved line) w = w ≡ Unresolved line
IsRefusal TooManyContexts w = w ≡ TooMany
IsRefusal Memory w = ⊤

-- a walk finds outlines with these marks, and these contexts
pub record AreContexts (w : Walked (List Thread)) (c : Contexts) : Type 0 where
  pub threads : List Thread
  pub marks : marks_in c ≡ marks_of threads
  pub found : w ≡ Found threads (contexts_of c)
