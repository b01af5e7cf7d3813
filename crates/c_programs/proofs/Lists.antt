-- One more at the end of what the code has.
use Rattle.std.proofs.Common.{◌≡◌, List, [], ◌∷◌, ◌++◌, map}
use Rattle.std.proofs.lemmas.List.{map-append}
use Rattle.c_tree.specs.declared.program.Function as declared
use Rattle.c_tree.specs.Lined.{function_of}

pub functions_grow : (all : List declared.Function) (f : declared.Function) → map function_of (all ++ f ∷ []) ≡ map function_of all ++ function_of f ∷ []
functions_grow all f = map-append function_of all (f ∷ [])
