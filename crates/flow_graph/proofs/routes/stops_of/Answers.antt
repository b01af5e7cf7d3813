use Rattle.std.proofs.Common.{sym, subst, ap, ◌∙◌}
use Rattle.std.specs.Prelude.{All, ◌++◌}
use Rattle.std.proofs.lemmas.List.Elements.{All-push}
use Rattle.c_tree.specs.Lined.{function_of, stmts_of}
use Rattle.flow_graph.specs.Routes.{callee_by, IsStop}
use Rattle.flow_graph.specs.Shown.{list_shapes, shown_shapes}
use Rattle.flow_graph.proofs.Routing.{stop_pushed, whole}
use Rattle.flow_graph.proofs.routes.stops_of.Goals as goal

pub loop-shape-preserved : goal.loop-shape-preserved
loop-shape-preserved c = record {
  shapes = stop_pushed c.deref-shape-items.result.now c.loop-shape.shape-index _ c.loop-shape.stops.items c.push-in-loop-shape.new.self.items c.stop_at.result c.loop-shape-test.true
      c.loop-shape.invariant.shapes c.in_ok-push-2.ensures.items c.stop_at.ensures.shape;
  stops = subst (All (IsStop (callee_by c.args.functions.now c.args.places.now))) (sym c.in_ok-push-2.ensures.items)
      (All-push (IsStop (callee_by c.args.functions.now c.args.places.now)) c.loop-shape.stops.items c.stop_at.result c.loop-shape.invariant.stops c.stop_at.ensures.callee);
}

pub returns-clause-shapes : goal.returns-clause-shapes
returns-clause-shapes c =
    whole c.deref-shape-items.result.now c.push_shapes.new.out.items c.loop-shape.stops.items (function_of c.args.f.now).body c.args.f.now.end_line c.loop-shape.shape-index
    (c.in_ok-push_shapes.ensures ∙ ap (λ ss. shown_shapes ss ++ list_shapes (stmts_of c.as_slice.result.now)) c.new-shapes.ensures.items ∙ ap (λ ss. list_shapes (stmts_of ss)) c.as_slice.ensures)
    (c.deref-shape-items.ensures.value ∙ c.in_ok-push.ensures.items) c.loop-shape-test.false c.loop-shape.invariant.shapes
