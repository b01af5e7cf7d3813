-- At which points the threads of a state are, and how they go from point to point.
use Rattle.std.specs.Prelude.{◌≡◌, ◌≤◌, ◌⊎◌, ℕ, suc, List, length, map, Some, slice_get}
use Rattle.std.specs.List.{range_with_len}
use Rattle.c_meaning.specs.State.{State}
use Rattle.edges.specs.declared.Edge.{Edge}
use Rattle.net_laws.specs.Net.{Net, HasEdge}
use Rattle.outlines.specs.Outline.{Thread}
use Rattle.outlines.specs.Moves.{Position}
use Rattle.outlines.specs.Rows.{row_at}
use Rattle.outlines.specs.Points.{thread_end, all_rows}
use Rattle.outline_laws.specs.Leading.{first_point, Located}
use Rattle.contexts.specs.Outlined.{Code}
use Rattle.outline_runs.specs.Standing.{Standing}
use Rattle.outline_runs.specs.Moving.{Alters}

-- a position of the thread u, which has this outline, stands at one of the points of the thread, of which `out` is the last
pub record IsLocated (es : List Thread) (u : ℕ) (th : Thread) (x : Position) (point : ℕ) : Type 0 where
  pub out : ℕ
  pub last : thread_end u th (first_point 0 es 0 u) ≡ suc out
  pub located : Located (row_at (all_rows 0 es 0)) th.body (first_point 0 es 0 u) out x point
  pub begun : first_point 0 es 0 u ≤ point
  pub before : point ≤ out

-- each thread of a state stands in a position of its outline, and that at its point
pub record AreAtPoints (code : Code) (es : List Thread) (s : State) (points : ℕ → ℕ) : Type 0 where
  pub positions : ℕ → Position
  pub standing : Standing code s positions
  pub located : (u : ℕ) (th : Thread) → slice_get es u ≡ Some th → IsLocated es u th (positions u) (points u)

-- the points of these threads, in order
abbrev pub points_of : List Thread → (ℕ → ℕ) → List ℕ
points_of es points = map points (range_with_len 0 (length es))

-- a thread goes along an edge of the net, and what it holds changes by the edge's operation alone
pub record GoesByEdge (n : Net) (p q : ℕ) (before after : ℕ → ℕ) : Type 0 where
  pub edge : Edge
  pub has : HasEdge n edge
  pub from : edge.from ≡ p
  pub to : edge.to ≡ q
  pub alters : Alters edge.op before after

-- it stays at its point, with what it holds
pub record StaysAt (p q : ℕ) (before after : ℕ → ℕ) : Type 0 where
  pub there : q ≡ p
  pub keeps : (r : ℕ) → after r ≡ before r

abbrev pub GoesIn : Net → ℕ → ℕ → (ℕ → ℕ) → (ℕ → ℕ) → Type 0
GoesIn n p q before after = StaysAt p q before after ⊎ GoesByEdge n p q before after
