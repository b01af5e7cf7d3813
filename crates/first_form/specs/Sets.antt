-- Sets of names against lists of names.
use Rattle.std.specs.Prelude.{◌≡◌, ℕ, Bool, List, map, bytes_eq}
use Rattle.std.specs.HashSet.{HashSet, contains_by}
use Rattle.c_rules.specs.Names.{mentions}
use denote.Ref.{Bor}

-- the names that slices hold
abbrev pub texts : List (Bor (List ℕ)) → List (List ℕ)
texts names = map (λ name. name.now) names

-- whether a set has a name
abbrev pub knows : {S : Type 0} → HashSet (Bor (List ℕ)) S → List ℕ → Bool
knows set name = contains_by (λ key. bytes_eq name key.now) set

-- a set has the names of a list, and no other
abbrev pub Knows : {S : Type 0} → HashSet (Bor (List ℕ)) S → List (List ℕ) → Type 0
Knows set names = (name : List ℕ) → knows set name ≡ mentions names name
