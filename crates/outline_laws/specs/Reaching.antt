-- Paths along the ways of rows: from where a thread begins to each of its points, and from there to its end.
use Rattle.std.specs.Prelude.{◌≡◌, ◌≤◌, ◌<◌, ℕ, zero, suc, List}
use Rattle.outlines.specs.Outline.{Thread}
use Rattle.outlines.specs.Rows.{Way, Row, HasWay, From}
use Rattle.outlines.specs.Points.{thread_rows, thread_end}

-- k ways from p to q
abbrev pub Goes : (ℕ → Row) → ℕ → ℕ → ℕ → Type 0
Goes src p q zero = p ≡ q
Goes src p q (suc k) = (w : Way) × HasWay src p w × Goes src w.to q k

abbrev pub Reaches : (ℕ → Row) → ℕ → ℕ → Type 0
Reaches src p q = (k : ℕ) × Goes src p q k

-- from each point of a thread there is a path to its last, where it has ended
abbrev pub PointsReachEnd : Type 0
PointsReachEnd = (src : ℕ → Row) (t : ℕ) (th : Thread) (p : ℕ) (more : List Row) → From src p (thread_rows t th p more) →
    (i : ℕ) → p ≤ i → i < thread_end t th p → (out : ℕ) × (thread_end t th p ≡ suc out) × Reaches src i out

-- to each point of a thread there is a path from its first
abbrev pub PointsAreReached : Type 0
PointsAreReached = (src : ℕ → Row) (t : ℕ) (th : Thread) (p : ℕ) (more : List Row) → From src p (thread_rows t th p more) →
    (i : ℕ) → p ≤ i → i < thread_end t th p → Reaches src p i
