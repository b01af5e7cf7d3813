-- Locals as values beside the names of a function's parameters and locals.
use Rattle.std.specs.Prelude.{ℕ, ℤ, List, [], ◌∷◌, Some, None}
use Rattle.std.specs.declared.option.Option.{Option}
use Rattle.std.specs.FinMap as finite
use Rattle.c_meaning.specs.State.{Locals}

-- the finite map of the names that have a value; of a name that stands twice the first place counts
abbrev pub locals_of : List (List ℕ) → List (Option ℤ) → Locals
locals_of [] values = finite.empty
locals_of (name ∷ names) [] = finite.empty
locals_of (name ∷ names) (Some z ∷ values) = finite.insert (locals_of names values) name z
locals_of (name ∷ names) (None ∷ values) = finite.remove (locals_of names values) name

-- a map where a name has a value, or has none any more
abbrev pub changed : Locals → List ℕ → Option ℤ → Locals
changed locals name (Some z) = finite.insert locals name z
changed locals name None = finite.remove locals name
