-- What declarations are read as, in the terms of the grammar.
use Rattle.std.specs.Prelude.{List}
use Rattle.c_grammar.specs.Declarations as g
use Rattle.c_grammar.specs.Declarations.{scalars, arrays}
use Rattle.c_declarations.specs.declared.tree.Sort.{Sort}
use Rattle.c_declarations.specs.declared.tree.Sort.TheVariants as sort
use Rattle.c_declarations.specs.declared.tree.Declared.{Declared}
use Rattle.c_declarations.specs.declared.tree.Declared.TheVariants as declared
use Rattle.c_declarations.specs.declared.tree.Ints.{Ints}
use Rattle.c_declarations.specs.declared.tree.Capacities.{Capacities}
use Rattle.c_declarations.specs.declared.tree.Head.{Head}

abbrev pub declared_of : g.Declared → Declared
declared_of (g.Scalar cell) = declared.Scalar cell
declared_of (g.Several array) = declared.Several array

abbrev pub ints_of : List g.Declared → Ints
ints_of all = record { cells = scalars all; arrays = arrays all }

abbrev pub sort_of : Sort → g.Sort
sort_of sort.Mutex = g.mutex
sort_of sort.Condition = g.condition

abbrev pub capacities_of : Capacities → g.Capacities
capacities_of c = record { len = c.len; values = c.values; line = c.line }

abbrev pub head_of : Head → g.Head
head_of h = record { name = h.name; kind = h.kind; params = h.params; line = h.line }
