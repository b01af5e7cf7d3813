-- Tables from names to numbers.
use Rattle.std.specs.Prelude.{◌≡◌, ℕ, ℤ, ◌+◌, ◌^◌, ◌<◌, if◌then◌else◌, List, [], ◌∷◌, sum_by, bytes_eq, Some, None, option_and_then, unwrap_or}
use Rattle.std.specs.declared.option.Option.{Option}
use Rattle.std.specs.HashMap.{get_by}
use Rattle.c_tree.specs.Bare.{Cell, Array, Object, Function}
use Rattle.c_tree.specs.Numbering.{member}
use Rattle.c_places.specs.declared.table.Range.{Range}
use Rattle.c_places.specs.declared.table.Table.{Table}

-- what is declared with a name, and with a length where it is an array
pub record Named : Type 0 where
  pub name : List ℕ
  pub len : Option ℕ

abbrev pub of_cell : Cell → Named
of_cell c = record { name = c.name; len = None }

abbrev pub of_array : Array → Named
of_array a = record { name = a.name; len = Some a.len }

abbrev pub of_object : Object → Named
of_object o = record { name = o.name; len = o.len }

abbrev pub of_function : Function → Named
of_function f = record { name = f.name; len = None }

-- how many numbers a thing takes
abbrev pub size : Option ℕ → ℕ
size len = unwrap_or len 1

-- how many numbers things take
abbrev pub sizes : List Named → ℕ
sizes things = sum_by (λ x. size x.len) things

-- what a table has for a name
abbrev pub found : Table → List ℕ → Option Range
found table name = get_by (λ key. bytes_eq name key.items) table.ranges

abbrev pub range : ℕ → Option ℕ → Range
range first len = record { first = first; len = len }

-- the numbers of the first thing of a name, where things are numbered in their order
abbrev pub ranged : ℕ → List Named → List ℕ → Option Range
ranged first [] name = None
ranged first (x ∷ xs) name = if bytes_eq x.name name then Some (range first x.len) else ranged (first + size x.len) xs name

-- the number of a thing's member, or of a single thing
abbrev pub number_in : ℕ → List Named → List ℕ → Option ℤ → Option ℕ
number_in first things name index = option_and_then (λ r. member r.first r.len index) (ranged first things name)

-- a table has the numbers of these things
pub record IsTableOf (first : ℕ) (things : List Named) (table : Table) : Type 0 where
  pub finds : (name : List ℕ) → found table name ≡ ranged first things name
  pub next : table.next ≡ first + sizes things
  pub fits : first + sizes things < 2 ^ 127
