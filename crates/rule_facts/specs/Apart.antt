-- Names that differ, and the functions of a program with their places.
use Rattle.std.specs.Prelude.{ℕ, List, [], ◌∷◌, Contains, map, ⊤}
use Rattle.std.specs.List.{enumerate_from}
use Rattle.c_tree.specs.Lined.{Function, Program}
use Rattle.c_rules.specs.Declarations.{outer}

-- no name comes twice
abbrev pub Apart : List (List ℕ) → Type 0
Apart [] = ⊤
Apart (name ∷ names) = (Contains names name → ⊥) × Apart names

-- the names of functions, in their order
abbrev pub function_names : Program → List (List ℕ)
function_names p = map (λ f. f.name) p.functions

-- all names that are declared outside functions, those of functions last
abbrev pub outer_names : Program → List (List ℕ)
outer_names p = map (λ d. d.name) (outer p)

-- this function stands at this place, counted from 0
abbrev pub Listed : Program → ℕ × Function → Type 0
Listed p f = Contains (enumerate_from 0 p.functions) f
