-- What a program starts with.
use Rattle.std.specs.Prelude.{ℤ, List}
use Rattle.c_tree.specs.declared.program.Array.{Array}
use Rattle.c_meaning.specs.State.{first_values}

-- the first values of an array's members
abbrev pub bare_values : Array → List ℤ
bare_values a = first_values (record { name = a.name; len = a.len; values = a.values })
