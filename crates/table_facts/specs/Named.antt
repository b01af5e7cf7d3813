-- What the written name of a resource names.
use Rattle.std.specs.Prelude.{◌≡◌, ℕ, List, [], ◌++◌, Some, None}
use Rattle.std.specs.declared.option.Option.{Option}
use Rattle.c_tree.specs.Bare.{Program}
use Rattle.c_check.specs.Tables.{resource_in, numbers_of}
use Rattle.c_check.specs.Written.{bracketed}

-- an index as it is written, where there is one
abbrev pub written : Option ℕ → List ℕ
written None = []
written (Some index) = bracketed index

-- a text that is the name of a mutex, or of a member of an array, which has this number
pub record NamesMutex (p : Program) (text : List ℕ) (r : ℕ) : Type 0 where
  pub name : List ℕ
  pub index : Option ℕ
  pub is : text ≡ name ++ written index
  pub resource : resource_in (numbers_of p).mutexes name index ≡ Some r
