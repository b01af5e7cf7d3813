use Rattle.std.proofs.Common.{◌≡◌, ◌++◌, drop}
use Rattle.flow_graph.specs.Shown.{shown_shapes}
use Rattle.flow_graph.proofs.Pushed.{left_shapes}
use Rattle.flow_graph.proofs.shapes.+shapes.Given as goal

-- what is pushed and what is left make the whole
abbrev pub invariant-push_shapes-loop-s : goal.invariant-push_shapes-loop-s
invariant-push_shapes-loop-s l = shown_shapes l.out.items ++ left_shapes (drop l.s-index l.ss) ≡ shown_shapes l.fn.out.items ++ left_shapes l.ss
