-- The stops of a function, passed one by one.
use Rattle.std.proofs.Common.{◌≡◌, ℕ, ◌+◌, ◌<◌, ◌≤◌, List, ◌∷◌, length, get_or, drop, map, refl, sym, ap, subst, ◌∙◌, Some}
use Rattle.std.specs.Prelude.{All, option_map, slice_get}
use Rattle.std.proofs.lemmas.List.{drop_more, drop_all, length-map}
use Rattle.std.proofs.lemmas.List.Elements.{All-get_or}
use Rattle.std.proofs.lemmas.Option.{slice_get_read, slice_get-map}
use Rattle.std.proofs.Math.ListN.{get_or-map}
use Rattle.c_tree.specs.Bare as bare
use Rattle.c_tree.specs.Lined.{Function}
use Rattle.context_items.specs.Marks.{Mark}
use Rattle.outline_pieces.specs.declared.builder.Builder.{Builder}
use Rattle.flow_graph.specs.declared.routes.Stop.{Stop}
use Rattle.flow_graph.specs.Routes.{shown_stops, FitsShape}
use Rattle.flow_graph.specs.Shown.{shown_shape}
use Rattle.flow_graph.specs.Weaving.{Woven, Entries, function_shapes, weave}
use Rattle.flow_graph.specs.Walking.{nothing_more, Adds}
use Rattle.flow_graph.proofs.Taking.{adds_both}

-- what is seen of the element at a place
pub mapped_at : {X Y : Type 0} (f : X → Y) (xs : List X) (k : ℕ) (x : X) → k < length xs → x ≡ get_or xs k x → slice_get (map f xs) k ≡ Some (f x)
mapped_at f xs k x within is = slice_get-map f xs k ∙ ap (option_map f) (slice_get_read xs (length xs) k x refl within is)

-- the stop at a place fits
pub stop_fits : (n : ℕ) (stops : List Stop) (i : ℕ) (d : Stop) → i < length stops → All (FitsShape n) (shown_stops stops) → FitsShape n (shown_shape (get_or stops i d).shape)
stop_fits n stops i d within all =
    subst (FitsShape n) (get_or-map (λ (s : Stop). shown_shape s.shape) stops i d)
    (All-get_or (FitsShape n) (shown_stops stops) i (shown_shape d.shape) (subst (λ m. i < m) (sym (length-map stops (λ (s : Stop). shown_shape s.shape))) within) all)

pub passed_on : (p : bare.Program) (c : Entries) (stops : List Stop) (i : ℕ) (d : Stop) (w : Woven) (before behind : List Mark) (x y z : Builder) → i < length stops → Adds w (weave p c (shown_stops (drop i stops)) before) x y
    → Adds (weave p c (shown_shape (get_or stops i d).shape ∷ shown_stops (drop (i + 1) stops)) before) (weave p c (shown_stops (drop (i + 1) stops)) behind) y z → Adds w (weave p c (shown_stops (drop (i + 1) stops)) behind) x z
passed_on p c stops i d w before behind x y z within so_far next =
    adds_both w (weave p c (shown_stops (drop i stops)) before) (weave p c (shown_stops (drop (i + 1) stops)) behind) x y z so_far
    (subst (λ ss. Adds (weave p c ss before) (weave p c (shown_stops (drop (i + 1) stops)) behind) y z) (sym (ap shown_stops (drop_more stops i d within))) next)

pub all_passed : (p : bare.Program) (c : Entries) (stops : List Stop) (i : ℕ) (f : Function) (before behind : List Mark) (x y : Builder) → length stops ≤ i → shown_stops stops ≡ function_shapes f
    → Adds (weave p c (shown_stops stops) before) (weave p c (shown_stops (drop i stops)) behind) x y → Adds (weave p c (function_shapes f) before) (nothing_more behind) x y
all_passed p c stops i f before behind x y all shapes so_far =
    subst (λ ss. Adds (weave p c ss before) (nothing_more behind) x y) shapes
    (subst (λ ss. Adds (weave p c (shown_stops stops) before) (weave p c (shown_stops ss) behind) x y) (drop_all i stops all) so_far)
