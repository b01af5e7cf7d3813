-- What is known where a function is entered, and which mutex a place names.
use Rattle.std.specs.Prelude.{ℕ, ℤ, if◌then◌else◌, List, [], ◌∷◌, ◌++◌, map, Some, None, option_and_then, option_map}
use Rattle.std.specs.declared.option.Option.{Option}
use Rattle.c_tree.specs.Expressions as tree
use Rattle.c_tree.specs.Expressions.{Expr, Exprs, Place}
use Rattle.c_tree.specs.Bare as bare
use Rattle.c_tree.specs.Numbering.{mutex_of}
use Rattle.c_tree.specs.Lined.{Function}
use Rattle.contexts.specs.Constants.{Constants, none_known, with_value, constant_in, written_all, among}

-- the arguments of a call, where they are constant
abbrev pub constants_of : Constants → Exprs → List (Option ℤ)
constants_of known tree.Nil = []
constants_of known (tree.Cons e es) = constant_in known e ∷ constants_of known es

-- an index, where it is constant; there may be none
abbrev pub known_index : Constants → Option Expr → Option (Option ℤ)
known_index known None = Some None
known_index known (Some e) = option_map (λ z. Some z) (constant_in known e)

-- the mutex at a place, where its index is constant and within range
abbrev pub resolved : bare.Program → Constants → Place → Option ℕ
resolved p known place = option_and_then (mutex_of p place.name) (known_index known place.index)

-- names under which no local of a function is constant: what it writes into, and ints
abbrev pub writes_of : bare.Program → Function → List (List ℕ)
writes_of p f = written_all f.body ++ map (λ c. c.name) p.ints

-- what is known where a function begins: its parameters that have a constant argument and aren't written into
abbrev pub passed : List (List ℕ) → List (List ℕ) → List (Option ℤ) → Constants
passed writes [] args = none_known
passed writes (name ∷ names) [] = none_known
passed writes (name ∷ names) (z ∷ args) = with_value (passed writes names args) name (if among writes name then None else z)
