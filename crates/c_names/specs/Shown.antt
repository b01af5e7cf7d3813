-- How declarations of the code are seen as those of the definitions.
use Rattle.std.specs.Prelude.{List, map}
use Rattle.c_tree.specs.Lined.{function_of}
use Rattle.c_rules.specs.Declarations as spec
use Rattle.c_names.specs.declared.outer.Thing as declared_thing
use Rattle.c_names.specs.declared.outer.Thing.TheVariants as declared
use Rattle.c_names.specs.declared.outer.Declaration as declared_declaration

abbrev pub thing_of : declared_thing.Thing → spec.Thing
thing_of declared.Scalar = spec.Scalar
thing_of declared.Array = spec.Array
thing_of (declared.Mutex len) = spec.Mutex len
thing_of (declared.Condition len) = spec.Condition len
thing_of (declared.Thread len) = spec.Thread len
thing_of (declared.Function place f) = spec.Function place (function_of f.now)
thing_of declared.Local = spec.Local
thing_of declared.Argument = spec.Argument

abbrev pub shown : declared_declaration.Declaration → spec.Declaration
shown d = record { name = d.name.now; thing = thing_of d.thing; line = d.line }

abbrev pub all_shown : List declared_declaration.Declaration → List spec.Declaration
all_shown ds = map shown ds
