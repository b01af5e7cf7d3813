-- Values with the levels that they take.
use Rattle.std.specs.Prelude.{ℕ, suc, max, List, [], ◌∷◌, ◌++◌}

-- A value, and how many levels it takes, its own among them. Its parts that have a level of their own stand one level below it.
pub record Tall (A : Type 0) : Type 0 where
  pub tree : A
  pub levels : ℕ

-- It takes as many levels.
abbrev pub tall : {A : Type 0} → A → ℕ → Tall A
tall tree levels = record { tree = tree; levels = levels }

-- It stands on a level of its own, with so many below.
abbrev pub over : {A : Type 0} → A → ℕ → Tall A
over tree below = tall tree (suc below)

-- No value, on no level.
abbrev pub nothing : {A : Type 0} → Tall (List A)
nothing = tall [] 0

-- One value on a level of its own, with so many below.
abbrev pub alone : {A : Type 0} → A → ℕ → Tall (List A)
alone tree below = over (tree ∷ []) below

-- Values, and after them others that begin on the same level.
abbrev pub followed : {A : Type 0} → Tall (List A) → Tall (List A) → Tall (List A)
followed all more = tall (all.tree ++ more.tree) (max all.levels more.levels)

-- The values of several parts, one after another.
abbrev pub together : {A : Type 0} → List (Tall (List A)) → Tall (List A)
together [] = nothing
together (one ∷ more) = followed one (together more)

-- The values of parts that begin on the same level.
abbrev pub gathered : {A : Type 0} → List (Tall A) → Tall (List A)
gathered [] = nothing
gathered (one ∷ more) = followed (tall (one.tree ∷ []) one.levels) (gathered more)
