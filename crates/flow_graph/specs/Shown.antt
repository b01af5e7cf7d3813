-- How shapes of the code are seen as those of the definitions.
use Rattle.std.specs.Prelude.{List, [], map}
use Rattle.c_tree.specs.Lined.{Stmts}
use Rattle.flow_graph.specs.Shapes as spec
use Rattle.flow_graph.specs.Shapes.{shapes_all}
use Rattle.flow_graph.specs.declared.shapes.Shape as declared_shape
use Rattle.flow_graph.specs.declared.shapes.Shape.TheVariants as declared

abbrev pub shown_shape : declared_shape.Shape → spec.Shape
shown_shape (declared.Step line) = spec.Shape.Step line
shown_shape (declared.Join line) = spec.Shape.Join line
shown_shape (declared.Leave line) = spec.Shape.Leave line
shown_shape (declared.Acquire line) = spec.Shape.Acquire line
shown_shape (declared.Release line) = spec.Shape.Release line
shown_shape (declared.Wait line takes) = spec.Shape.Wait line takes.now
shown_shape (declared.Try line) = spec.Shape.Try line
shown_shape (declared.Branch line) = spec.Shape.Branch line
shown_shape (declared.Loop line) = spec.Shape.Loop line
shown_shape declared.Else = spec.Shape.Else
shown_shape declared.ArmsEnd = spec.Shape.ArmsEnd
shown_shape declared.LoopEnd = spec.Shape.LoopEnd
shown_shape (declared.Call line name) = spec.Shape.Call line name.now

abbrev pub shown_shapes : List declared_shape.Shape → List spec.Shape
shown_shapes ss = map shown_shape ss

-- the shapes of a list
abbrev pub list_shapes : Stmts → List spec.Shape
list_shapes ss = shapes_all ss []
