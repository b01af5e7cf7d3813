-- The marks that weren't taken yet.
use Rattle.std.specs.Prelude.{List, map}
use Rattle.context_items.specs.Marks as spec
use Rattle.context_walk.specs.Found.{shown_mark}
use Rattle.flow_graph.specs.declared.marks.Marks.{Marks}

abbrev pub left_in : Marks → List spec.Mark
left_in m = map shown_mark m.marks.now
