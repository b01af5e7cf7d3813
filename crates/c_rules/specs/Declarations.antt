-- What a program declares outside functions, and which declaration a name means.
use Rattle.std.specs.Prelude.{ℕ, nat_le, if◌then◌else◌, List, [], ◌∷◌, ◌++◌, map, filter, bytes_eq, Some, None}
use Rattle.std.specs.declared.option.Option.{Option}
use Rattle.std.specs.List.{enumerate_from}
use Rattle.c_tree.specs.declared.program.Cell.{Cell}
use Rattle.c_tree.specs.declared.program.Array as declared_array
use Rattle.c_tree.specs.declared.program.Object.{Object}
use Rattle.c_tree.specs.declared.program.Slot.{Slot}
use Rattle.c_tree.specs.Lined as lined
use Rattle.c_tree.specs.Lined.{Program}

-- What a name stands for.
pub data Thing : Type 0 where
  -- an int outside functions
  Scalar : Thing
  -- an array of ints
  Array : Thing
  -- a mutex, or an array of this length
  Mutex : (len : Option ℕ) → Thing
  Condition : (len : Option ℕ) → Thing
  Thread : (len : Option ℕ) → Thing
  -- the function at this place, counted from 0
  Function : (place : ℕ) (function : lined.Function) → Thing
  -- a local, or a parameter that is an int
  Local : Thing
  -- the parameter of a thread's start function
  Argument : Thing

pub record Declaration : Type 0 where
  pub name : List ℕ
  pub thing : Thing
  pub line : ℕ

abbrev pub of_cell : Cell → Declaration
of_cell c = record { name = c.name; thing = Scalar; line = c.line }

abbrev pub of_array : declared_array.Array → Declaration
of_array a = record { name = a.name; thing = Array; line = a.line }

abbrev pub of_mutex : Object → Declaration
of_mutex m = record { name = m.name; thing = Mutex m.len; line = m.line }

abbrev pub of_condition : Object → Declaration
of_condition c = record { name = c.name; thing = Condition c.len; line = c.line }

abbrev pub of_slot : Slot → Declaration
of_slot t = record { name = t.name; thing = Thread t.len; line = t.line }

abbrev pub of_function : ℕ × lined.Function → Declaration
of_function f = record { name = f.1.name; thing = Function f.0 f.1; line = f.1.line }

-- what is declared outside functions, with the functions
abbrev pub outer : Program → List Declaration
outer p =
    map of_cell p.ints ++ map of_array p.arrays ++ map of_mutex p.mutexes ++ map of_condition p.conds ++ map of_slot p.threads
    ++ map of_function (enumerate_from 0 p.functions)

-- the declarations of a name
abbrev pub named : List ℕ → List Declaration → List Declaration
named name ds = filter (λ d. bytes_eq d.name name) ds

abbrev pub earlier : Declaration → Option Declaration → Declaration
earlier d None = d
earlier d (Some e) = if nat_le d.line e.line then d else e

-- the declaration on the least line; of several there the first
abbrev pub earliest : List Declaration → Option Declaration
earliest [] = None
earliest (d ∷ ds) = Some (earlier d (earliest ds))

-- the declaration that a name means outside functions
abbrev pub declaration_of : Program → List ℕ → Option Declaration
declaration_of p name = earliest (named name (outer p))
