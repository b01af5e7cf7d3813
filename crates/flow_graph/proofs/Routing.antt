-- Stops, one by one.
use Rattle.std.proofs.Common.{◌≡◌, ℕ, ◌+◌, ◌<◌, ◌≤◌, List, [], ◌∷◌, ◌++◌, length, get_or, take, sym, ◌∙◌, ap}
use Rattle.std.proofs.lemmas.List.{take_more, take_all, map-append}
use Rattle.c_tree.specs.Lined.{Stmts}
use Rattle.flow_graph.specs.Shapes.{Shape, shapes_all}
use Rattle.flow_graph.specs.declared.shapes.Shape as declared_shape
use Rattle.flow_graph.specs.declared.shapes.Shape.TheVariants as v
use Rattle.flow_graph.specs.declared.routes.Stop.{Stop}
use Rattle.flow_graph.specs.Shown.{shown_shape, shown_shapes, list_shapes}
use Rattle.flow_graph.specs.Routes.{shown_stops}
use Rattle.flow_graph.proofs.Pushed.{pushed, shapes_append}

pub stop_pushed : (items : List declared_shape.Shape) (i : ℕ) (d : declared_shape.Shape) (old new : List Stop) (s : Stop) → i < length items → shown_stops old ≡ shown_shapes (take i items) → new ≡ old ++ s ∷ []
    → s.shape ≡ get_or items i d → shown_stops new ≡ shown_shapes (take (i + 1) items)
stop_pushed items i d old new s within so_far e same =
    ap shown_stops e ∙ map-append (λ (t : Stop). shown_shape t.shape) old (s ∷ []) ∙ ap (λ xs. xs ++ shown_shape s.shape ∷ []) so_far
    ∙ ap (λ y. shown_shapes (take i items) ++ shown_shape y ∷ []) same
    ∙ sym (ap shown_shapes (take_more items i d within) ∙ map-append shown_shape (take i items) (get_or items i d ∷ []))

-- all shapes of a function, with its end
pub whole : (items before : List declared_shape.Shape) (stops : List Stop) (body : Stmts) (line i : ℕ) → shown_shapes before ≡ list_shapes body → items ≡ before ++ v.Leave line ∷ [] → length items ≤ i
    → shown_stops stops ≡ shown_shapes (take i items) → shown_stops stops ≡ shapes_all body (Shape.Leave line ∷ [])
whole items before stops body line i first e all so_far =
    so_far ∙ ap shown_shapes (take_all i items all) ∙ pushed before items (v.Leave line) e ∙ ap (λ xs. xs ++ Shape.Leave line ∷ []) first ∙ sym (shapes_append body [] (Shape.Leave line ∷ []))
