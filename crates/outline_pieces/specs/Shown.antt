-- The points that rows and counts show.
use Rattle.std.specs.Prelude.{List, [], ◌∷◌, ℕ}
use Rattle.edges.specs.declared.Point.{Point}
use Rattle.outlines.specs.Rows.{Row, is_sleeping}

-- the points of these rows, with these counts
abbrev pub points_of : List Row → List (List ℕ) → List Point
points_of [] counts = []
points_of (r ∷ rs) [] = []
points_of (r ∷ rs) (c ∷ cs) = record { thread = r.thread; line = r.line; waiting = is_sleeping r.kind; held = c } ∷ points_of rs cs
