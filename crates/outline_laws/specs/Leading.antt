-- The rows of what is live lead through the whole outline, and threads move along the ways of their rows.
use Rattle.std.specs.Prelude.{◌≡◌, ℕ, zero, suc, List, [], ◌∷◌, IsTrue, slice_get, Some}
use Rattle.edges.specs.declared.EdgeOp.{EdgeOp}
use Rattle.edges.specs.declared.EdgeOp.TheVariants as op
use Rattle.outlines.specs.Outline.{Part, Parts, Thread, joined, passes_all, live, live_all}
use Rattle.outlines.specs.Moves.{Position, Before, At, Asleep, Woken, Over, MovesTo}
use Rattle.outlines.specs.Rows.{Sleeping, Row, way, HasWay, From}
use Rattle.outlines.specs.Points.{rows, rows_all, head, thread_rows, thread_end, all_rows}
use Rattle.outlines.specs.Leads.{Leads, LeadsAll, LeadsWoken}

abbrev pub PartLeads : Type 0
PartLeads = (src : ℕ → Row) (t : ℕ) (x : Part) (p q back : ℕ) (more : List Row) →
    From src p (rows t (live x) p q back more) → Leads src back x p q

abbrev pub PartsLead : Type 0
PartsLead = (src : ℕ → Row) (t : ℕ) (xs : Parts) (p q back : ℕ) (more : List Row) →
    From src p (rows_all t (live_all xs) p q back more) → LeadsAll src back xs (head (live_all xs) p q) q

-- parts and then others, which need only be led through where control passes the first
abbrev pub JoinedLead : Type 0
JoinedLead = (src : ℕ → Row) (back : ℕ) (xs ys : Parts) (p q e : ℕ) →
    LeadsAll src back xs p q → (IsTrue (passes_all xs) → LeadsAll src back ys q e) → LeadsAll src back (joined xs ys) p e

-- the number of the first point of the thread u, where these are the threads from t on and their points those from p on
abbrev pub first_point : ℕ → List Thread → ℕ → ℕ → ℕ
first_point t [] p u = p
first_point t (th ∷ ths) p zero = p
first_point t (th ∷ ths) p (suc u) = first_point (suc t) ths (thread_end t th p) u

-- among all rows those of each thread stand at its number
abbrev pub ThreadsHaveRows : Type 0
ThreadsHaveRows = (src : ℕ → Row) (ths : List Thread) (u : ℕ) (th : Thread) →
    From src 0 (all_rows 0 ths 0) → slice_get ths u ≡ Some th →
    (more : List Row) × From src (first_point 0 ths 0 u) (thread_rows u th (first_point 0 ths 0 u) more)

-- from q on the rows lead through what is left of the calling functions, the newest first, and then to `out`
abbrev pub LeadsUp : (ℕ → Row) → ℕ → List Parts → ℕ → Type 0
LeadsUp src out [] q = q ≡ out
LeadsUp src out (xs ∷ more) q = (back e : ℕ) × LeadsAll src back xs q e × LeadsUp src out more back

-- in a function at least
abbrev pub LeadsIn : (ℕ → Row) → ℕ → List Parts → ℕ → Type 0
LeadsIn src out [] p = ⊥
LeadsIn src out (xs ∷ more) p = LeadsUp src out (xs ∷ more) p

-- the position stands at the point p of a thread with this body, of which one point is the first and `out` the last
abbrev pub Located : (ℕ → Row) → Parts → ℕ → ℕ → Position → ℕ → Type 0
Located src body first out Before p = (i : ℕ) × (p ≡ first) × ((src p).ways ≡ way op.Plain i ∷ []) × LeadsIn src out (body ∷ []) i
Located src body first out (At left) p = LeadsIn src out left p
Located src body first out (Asleep r cs left) p =
    (i q : ℕ) × ((src p).kind ≡ Sleeping) × ((src p).ways ≡ way op.Plain i ∷ []) × LeadsWoken src r cs i q × LeadsIn src out left q
Located src body first out (Woken r cs left) p = (q : ℕ) × LeadsWoken src r cs p q × LeadsIn src out left q
Located src body first out Over p = p ≡ out

-- where a thread begins: main has begun
abbrev pub begins : ℕ → Parts → Position
begins zero body = At (body ∷ [])
begins (suc t) body = Before

-- a thread begins at the first of its points
abbrev pub ThreadsBegin : Type 0
ThreadsBegin = (src : ℕ → Row) (t : ℕ) (th : Thread) (p : ℕ) (more : List Row) → From src p (thread_rows t th p more) →
    (out : ℕ) × (thread_end t th p ≡ suc out) × Located src th.body p out (begins t th.body) p

-- where a thread moves, there is a way from its point that does the same, to the point of its next position
abbrev pub MovesGoAlong : Type 0
MovesGoAlong = (src : ℕ → Row) (body : Parts) (first out : ℕ) (x y : Position) (does : EdgeOp) (p : ℕ) →
    Located src body first out x p → MovesTo body x does y →
    (q : ℕ) × HasWay src p (way does q) × Located src body first out y q
