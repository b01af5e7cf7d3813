-- What the rows of a thread are, each by its kind, and the resources that they name.
use Rattle.std.specs.Prelude.{◌≡◌, ◌⊎◌, ◌≤◌, ◌<◌, ℕ, Bool, true, false, List, [], ◌∷◌, IsFalse}
use Rattle.edges.specs.declared.EdgeOp.TheVariants as op
use Rattle.outlines.specs.Outline.{Thread}
use Rattle.outlines.specs.Rows.{Way, Kind, Act, Test, Sleeping, Waking, Joining, Trying, Row, way, HasWay, From}
use Rattle.outlines.specs.Points.{thread_rows, thread_end}

-- inside a wait: asleep, or woken and not yet done with taking
abbrev pub is_inside : Kind → Bool
is_inside Act = false
is_inside Test = false
is_inside Sleeping = true
is_inside Waking = true
is_inside Joining = false
is_inside Trying = false

abbrev pub IsOutside : (ℕ → Row) → ℕ → Type 0
IsOutside src p = IsFalse (is_inside (src p).kind)

-- a woken thread takes these, one after the other, and then r again, and is out of the wait
abbrev pub WakesAt : (ℕ → Row) → ℕ → List ℕ → ℕ → Type 0
WakesAt src r [] p = ((src p).kind ≡ Waking) × (q : ℕ) × ((src p).ways ≡ way (op.Reacquire r) q ∷ []) × IsOutside src q
WakesAt src r (c ∷ cs) p = ((src p).kind ≡ Waking) × (q : ℕ) × ((src p).ways ≡ way (op.Acquire c) q ∷ []) × WakesAt src r cs q

-- a thread is asleep at p, and does so once it is woken
abbrev pub SleepsAt : (ℕ → Row) → ℕ → ℕ → Type 0
SleepsAt src r p = ((src p).kind ≡ Sleeping) × (q : ℕ) × (cs : List ℕ) × ((src p).ways ≡ way op.Plain q ∷ []) × WakesAt src r cs q

-- the ways out of a point by its kind: a test has two plain ones, a trylock one that takes and a plain one, and any other
-- point one at most; waits are entered by a release of what is taken again at their end, and in no other way
abbrev pub HaveShape : (ℕ → Row) → Kind → List Way → Type 0
HaveShape src Act ws =
    (ws ≡ [])
    ⊎ (((q : ℕ) × (ws ≡ way op.Plain q ∷ []) × IsOutside src q)
    ⊎ (((r q : ℕ) × (ws ≡ way (op.Acquire r) q ∷ []) × IsOutside src q)
    ⊎ ((r q : ℕ) × (ws ≡ way (op.Release r) q ∷ []) × (IsOutside src q ⊎ SleepsAt src r q))))
HaveShape src Test ws = (q z : ℕ) × (ws ≡ way op.Plain q ∷ way op.Plain z ∷ []) × IsOutside src q × IsOutside src z
HaveShape src Sleeping ws = (q : ℕ) × (ws ≡ way op.Plain q ∷ []) × ((src q).kind ≡ Waking)
HaveShape src Waking ws =
    ((c q : ℕ) × (ws ≡ way (op.Acquire c) q ∷ []) × ((src q).kind ≡ Waking))
    ⊎ ((r q : ℕ) × (ws ≡ way (op.Reacquire r) q ∷ []) × IsOutside src q)
HaveShape src Joining ws = (q : ℕ) × (ws ≡ way op.Plain q ∷ []) × IsOutside src q
HaveShape src Trying ws = (r q z : ℕ) × (ws ≡ way (op.Try r) q ∷ way op.Plain z ∷ []) × IsOutside src q × IsOutside src z

-- a row of the thread t, whose points are those from `first` on and below `last`: its ways lead to points of the thread
pub record IsRowOf (src : ℕ → Row) (t first last i : ℕ) : Type 0 where
  pub thread : (src i).thread ≡ t
  pub within : (w : Way) → HasWay src i w → (first ≤ w.to) × (w.to < last)
  pub shape : HaveShape src (src i).kind (src i).ways

abbrev pub RowsHaveShape : Type 0
RowsHaveShape = (src : ℕ → Row) (t : ℕ) (th : Thread) (p : ℕ) (more : List Row) → From src p (thread_rows t th p more) →
    (i : ℕ) → p ≤ i → i < thread_end t th p → IsRowOf src t p (thread_end t th p) i
