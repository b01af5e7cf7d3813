use Rattle.std.proofs.Common.{◌≡◌, length}
use Rattle.c_tree.specs.Lined.{bare_program}
use Rattle.c_tree.specs.Numbering.{mutex_count}
use Rattle.context_walk.specs.Prepared.{program_in}
use Rattle.flow_graph.specs.Routes.{AreRoutes, ArePlaces}
use Rattle.flow_graph.proofs.routes.Routes.new.Given as goal

abbrev pub invariant-loop-f : goal.invariant-loop-f
invariant-loop-f l = record {
  routes : AreRoutes l.routes;
  places : ArePlaces (program_in l.functions) (length l.routes.routes.items) l.places;
  functions : l.routes.functions.now ≡ l.functions;
  mutexes : l.routes.mutexes ≡ mutex_count (bare_program (program_in l.functions));
  count : length l.routes.routes.items ≡ l.f-index;
}
