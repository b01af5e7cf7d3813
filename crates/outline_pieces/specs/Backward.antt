-- The ways out of places, from the last place to the first.
use Rattle.std.specs.Prelude.{ℕ, zero, suc, List, [], ◌∷◌}
use Rattle.edges.specs.declared.EdgeOp.{EdgeOp}
use Rattle.edges.specs.declared.EdgeOp.TheVariants.{Plain}
use Rattle.edges.specs.declared.Edge.{Edge}
use Rattle.outline_pieces.specs.declared.pieces.Piece.{Piece}
use Rattle.outline_pieces.specs.declared.pieces.Piece.TheVariants.{Begin, Pass, Fork, Loop, Inner, Leave, Else, ArmsEnd, LoopEnd, InnerEnd, Finish}
use Rattle.outline_pieces.specs.declared.pieces.Place.{Place}
use Rattle.outline_pieces.specs.declared.ways.Ways.{Ways}
use Rattle.outline_pieces.specs.Places.{op_of, op_tried}

-- the edges, the point that comes next, where a function is left to, and what comes behind what is open
abbrev pub ways : List Edge → ℕ → ℕ → List ℕ → Ways
ways edges next back behind = record { edges = edges; next = next; back = back; behind = behind }

abbrev pub start : Ways
start = ways [] 0 0 []

abbrev pub edge : ℕ → EdgeOp → ℕ → Edge
edge from op to = record { from = from; to = to; op = op }

-- the newest number, or 0
abbrev pub newest : List ℕ → ℕ
newest [] = 0
newest (n ∷ ns) = n

abbrev pub older : List ℕ → List ℕ
older [] = []
older (n ∷ ns) = ns

abbrev pub led : ℕ → EdgeOp → ℕ → Ways → Ways
led from op to w = ways (edge from op to ∷ w.edges) w.next w.back w.behind

abbrev pub at : ℕ → Ways → Ways
at p w = ways w.edges p w.back w.behind

abbrev pub kept : ℕ → Ways → Ways
kept n w = ways w.edges w.next w.back (n ∷ w.behind)

abbrev pub without : Ways → Ways
without w = ways w.edges w.next w.back (older w.behind)

abbrev pub passed : ℕ → EdgeOp → Ways → Ways
passed p op w = at p (led p op w.next w)

-- two ways on, to what comes next and to what is behind
abbrev pub forked : ℕ → EdgeOp → Ways → Ways
forked p op w = at p (led p op w.next (led p Plain (newest w.behind) (without w)))

abbrev pub turned : Ways → Ways
turned w = ways w.edges (newest w.behind) w.back (w.next ∷ older w.behind)

abbrev pub called : ℕ → Ways → Ways
called p w = ways (edge p Plain w.next ∷ w.edges) p (newest w.behind) (older w.behind)

abbrev pub returned : Ways → Ways
returned w = ways w.edges w.next w.next (w.back ∷ w.behind)

abbrev pub begun : ℕ → ℕ → Ways → Ways
begun zero p w = w
begun (suc t) p w = passed p Plain w

abbrev pub finished : ℕ → Ways → Ways
finished p w = ways w.edges p p w.behind

abbrev pub step_of : ℕ → ℕ → Piece → Ways → Ways
step_of t p (Begin line) w = begun t p w
step_of t p (Pass line d) w = passed p (op_of d) w
step_of t p (Fork line tried) w = forked p (op_tried tried) w
step_of t p (Loop line) w = forked p Plain w
step_of t p (Inner line) w = called p w
step_of t p (Leave line) w = at p (led p Plain w.back w)
step_of t p Else w = turned w
step_of t p ArmsEnd w = kept w.next w
step_of t p LoopEnd w = at p (kept w.next w)
step_of t p InnerEnd w = returned w
step_of t p (Finish line) w = finished p w

abbrev pub step : Place → Ways → Ways
step x w = step_of x.thread x.at x.piece w

-- over places, the last one first
abbrev pub over : Ways → List Place → Ways
over w [] = w
over w (p ∷ ps) = step p (over w ps)
