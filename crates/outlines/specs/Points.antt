-- The points of live outlines: their rows in point order, numbered by threading.
use Rattle.std.specs.Prelude.{ℕ, zero, suc, List, [], ◌∷◌}
use Rattle.outlines.specs.Outline.{Part, Parts, Step, Join, Acquire, Release, Wait, Try, Branch, Loop, Inner, Leave, Nil, Cons, Thread, live_all}
use Rattle.outlines.specs.Rows.{Row, Act, Test, Sleeping, Waking, Joining, Trying, way, row}
use Rattle.edges.specs.declared.EdgeOp.TheVariants as op

-- the number behind the rows of takes
abbrev pub takes_end : List ℕ → ℕ → ℕ
takes_end [] p = p
takes_end (c ∷ cs) p = takes_end cs (suc p)

-- the rows of a woken thread: it takes these one after the other, and then its mutex
abbrev pub woken_rows : ℕ → ℕ → ℕ → List ℕ → ℕ → ℕ → List Row → List Row
woken_rows t line r [] p q more = row t line Waking (way (op.Reacquire r) q ∷ []) ∷ more
woken_rows t line r (c ∷ cs) p q more = row t line Waking (way (op.Acquire c) (suc p) ∷ []) ∷ woken_rows t line r cs (suc p) q more

abbrev mutual
  -- the number behind the points of a part that is numbered from p
  pub end : Part → ℕ → ℕ
  end (Step line) p = suc p
  end (Join line) p = suc p
  end (Acquire line r) p = suc p
  end (Release line r) p = suc p
  end (Wait line r cs) p = suc (takes_end cs (suc (suc p)))
  end (Try line r a b) p = end_all b (end_all a (suc p))
  end (Branch line a b) p = end_all b (end_all a (suc p))
  end (Loop line body) p = end_all body (suc p)
  end (Inner line f body) p = end_all body (suc p)
  end (Leave line) p = suc p

  pub end_all : Parts → ℕ → ℕ
  end_all Nil p = p
  end_all (Cons x xs) p = end_all xs (end x p)

-- the number of the first point of these parts, or of what comes next where there is none
abbrev pub head : Parts → ℕ → ℕ → ℕ
head Nil p q = q
head (Cons x xs) p q = p

abbrev mutual
  -- the rows from p on, where q comes next and a return leads to `back`, before more
  pub rows : ℕ → Part → ℕ → ℕ → ℕ → List Row → List Row
  rows t (Step line) p q back more = row t line Act (way op.Plain q ∷ []) ∷ more
  rows t (Join line) p q back more = row t line Joining (way op.Plain q ∷ []) ∷ more
  rows t (Acquire line r) p q back more = row t line Act (way (op.Acquire r) q ∷ []) ∷ more
  rows t (Release line r) p q back more = row t line Act (way (op.Release r) q ∷ []) ∷ more
  rows t (Wait line r cs) p q back more =
      row t line Act (way (op.Release r) (suc p) ∷ []) ∷ row t line Sleeping (way op.Plain (suc (suc p)) ∷ [])
      ∷ woken_rows t line r cs (suc (suc p)) q more
  rows t (Try line r a b) p q back more =
      row t line Trying (way (op.Try r) (head a (suc p) q) ∷ way op.Plain (head b (end_all a (suc p)) q) ∷ [])
      ∷ rows_all t a (suc p) q back (rows_all t b (end_all a (suc p)) q back more)
  rows t (Branch line a b) p q back more =
      row t line Test (way op.Plain (head a (suc p) q) ∷ way op.Plain (head b (end_all a (suc p)) q) ∷ [])
      ∷ rows_all t a (suc p) q back (rows_all t b (end_all a (suc p)) q back more)
  rows t (Loop line body) p q back more =
      row t line Test (way op.Plain (head body (suc p) p) ∷ way op.Plain q ∷ []) ∷ rows_all t body (suc p) p back more
  rows t (Inner line f body) p q back more = row t line Act (way op.Plain (head body (suc p) q) ∷ []) ∷ rows_all t body (suc p) q q more
  rows t (Leave line) p q back more = row t line Act (way op.Plain back ∷ []) ∷ more

  pub rows_all : ℕ → Parts → ℕ → ℕ → ℕ → List Row → List Row
  rows_all t Nil p q back more = more
  rows_all t (Cons x xs) p q back more = rows t x p (head xs (end x p) q) back (rows_all t xs (end x p) q back more)

-- the rows of a thread from p on: before it begins, its body, and when it has ended; main has begun
abbrev pub thread_rows : ℕ → Thread → ℕ → List Row → List Row
thread_rows zero th p more =
    rows_all zero (live_all th.body) p (end_all (live_all th.body) p) (end_all (live_all th.body) p) (row zero th.end_line Act [] ∷ more)
thread_rows (suc t) th p more =
    row (suc t) th.line Act (way op.Plain (suc p) ∷ [])
    ∷ rows_all (suc t) (live_all th.body) (suc p) (end_all (live_all th.body) (suc p)) (end_all (live_all th.body) (suc p)) (row (suc t) th.end_line Act [] ∷ more)

-- the number behind the points of a thread
abbrev pub thread_end : ℕ → Thread → ℕ → ℕ
thread_end zero th p = suc (end_all (live_all th.body) p)
thread_end (suc t) th p = suc (end_all (live_all th.body) (suc p))

-- the rows of all threads from p on, the first of which is t
abbrev pub all_rows : ℕ → List Thread → ℕ → List Row
all_rows t [] p = []
all_rows t (th ∷ ths) p = thread_rows t th p (all_rows (suc t) ths (thread_end t th p))
