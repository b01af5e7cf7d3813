use Rattle.std.proofs.Common.{◌≡◌, take}
use Rattle.std.specs.Prelude.{All}
use Rattle.flow_graph.specs.Shown.{shown_shapes}
use Rattle.flow_graph.specs.Routes.{shown_stops, callee_by, IsStop}
use Rattle.flow_graph.proofs.routes.stops_of.Given as goal

abbrev pub invariant-loop-shape : goal.invariant-loop-shape
invariant-loop-shape l = record {
  shapes : shown_stops l.stops.items ≡ shown_shapes (take l.shape-index l.shape-items);
  stops : All (IsStop (callee_by l.functions l.places)) l.stops.items;
}
