-- Rows: the points of threads in the order of their numbers, each with the ways out of it.
use Rattle.std.specs.Prelude.{◌≡◌, ℕ, zero, suc, Bool, true, false, List, [], ◌∷◌, slice_get, Some, ⊤}
use Rattle.edges.specs.declared.EdgeOp.{EdgeOp}
use Rattle.edges.specs.declared.Edge.{Edge}

-- one way out of a point: what is done on it, and the point that it leads to
pub record Way : Type 0 where
  pub op : EdgeOp
  pub to : ℕ

pub data Kind : Type 0 where
  Act : Kind
  -- control goes one of two ways on
  Test : Kind
  -- the thread waits for a signal
  Sleeping : Kind
  -- the thread was woken, and takes a token next
  Waking : Kind
  Joining : Kind
  -- a mutex is taken where it is free
  Trying : Kind

-- one point: the ways out of it, its thread, and the line of its statement
pub record Row : Type 0 where
  pub ways : List Way
  pub kind : Kind
  pub thread : ℕ
  pub line : ℕ

abbrev pub way : EdgeOp → ℕ → Way
way o q = record { op = o; to = q }

abbrev pub row : ℕ → ℕ → Kind → List Way → Row
row t line kind ways = record { ways = ways; kind = kind; thread = t; line = line }

abbrev pub is_sleeping : Kind → Bool
is_sleeping Act = false
is_sleeping Test = false
is_sleeping Sleeping = true
is_sleeping Waking = false
is_sleeping Joining = false
is_sleeping Trying = false

-- a way out of the point p, where src has the row of each point
abbrev pub HasWay : (ℕ → Row) → ℕ → Way → Type 0
HasWay src p w = (j : ℕ) × (slice_get (src p).ways j ≡ Some w)

-- src has these rows from p on
abbrev pub From : (ℕ → Row) → ℕ → List Row → Type 0
From src p [] = ⊤
From src p (r ∷ rs) = (src p ≡ r) × From src (suc p) rs

-- the row of each point, where these are the rows
abbrev pub row_at : List Row → ℕ → Row
row_at [] p = row 0 0 Act []
row_at (r ∷ rs) zero = r
row_at (r ∷ rs) (suc p) = row_at rs p

abbrev pub edge : ℕ → Way → Edge
edge p w = record { from = p; to = w.to; op = w.op }

-- the edges of these ways of p, before more
abbrev pub edges_of : ℕ → List Way → List Edge → List Edge
edges_of p [] more = more
edges_of p (w ∷ ws) more = edge p w ∷ edges_of p ws more

-- the edges of rows whose points are numbered from p on
abbrev pub edges_from : ℕ → List Row → List Edge
edges_from p [] = []
edges_from p (r ∷ rs) = edges_of p r.ways (edges_from (suc p) rs)
