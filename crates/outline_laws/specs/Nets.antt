-- The net whose points are those of threads.
use Rattle.std.specs.Prelude.{◌≡◌, ◌≤◌, ◌<◌, ℕ, List, ◌+◌, length, slice_get, Some, IsTrue}
use Rattle.edges.specs.declared.EdgeOp.TheVariants.{Release}
use Rattle.edges.specs.declared.Edge.{Edge}
use Rattle.edges.specs.Ops.{takes, blocks, gives}
use Rattle.net_laws.specs.Net.{Net, HasEdge}
use Rattle.weight_laws.specs.Flow.{Path, Wakes}
use Rattle.outlines.specs.Outline.{Thread}
use Rattle.outlines.specs.Whole.{ThreadsName}
use Rattle.outlines.specs.Rows.{is_sleeping, row_at, edges_from}
use Rattle.outlines.specs.Points.{thread_end, all_rows}
use Rattle.outline_laws.specs.Leading.{first_point}

-- the points of the net are those of the threads, and so are the edges, in the order of their points
pub record IsNetOf (n : Net) (ths : List Thread) : Type 0 where
  pub threads : n.threads ≡ length ths
  pub points : n.points ≡ length (all_rows 0 ths 0)
  pub edges : n.edges ≡ edges_from 0 (all_rows 0 ths 0)
  pub thread_of : (p : ℕ) → p < n.points → n.thread_of p ≡ (row_at (all_rows 0 ths 0) p).thread
  pub waiting : (p : ℕ) → p < n.points → n.waiting p ≡ is_sleeping (row_at (all_rows 0 ths 0) p).kind

-- q is the last point of a thread, and p one of its points
pub record IsLastFor (ths : List Thread) (p q : ℕ) : Type 0 where
  pub number : ℕ
  pub thread : Thread
  pub found : slice_get ths number ≡ Some thread
  pub begun : first_point 0 ths 0 number ≤ p
  pub last : thread_end number thread (first_point 0 ths 0 number) ≡ q + 1
  pub before : p ≤ q

-- where a thread may be blocked there is one edge
abbrev pub BlocksAlone : Type 0
BlocksAlone = (n : Net) (ths : List Thread) → IsNetOf n ths → (e f : Edge) (r : ℕ) → HasEdge n e → HasEdge n f →
    e.from ≡ f.from → IsTrue (blocks e.op r) → e ≡ f

-- edges lead between points of one thread, and points are of threads
abbrev pub LeadsWithin : Type 0
LeadsWithin = (n : Net) (ths : List Thread) → IsNetOf n ths → (e : Edge) → HasEdge n e →
    (e.from < n.points) × (e.to < n.points) × (n.thread_of e.from ≡ n.thread_of e.to)

abbrev pub PointsAreOfThreads : Type 0
PointsAreOfThreads = (n : Net) (ths : List Thread) → IsNetOf n ths → (p : ℕ) → p < n.points → n.thread_of p < n.threads

-- what is taken or given is named
abbrev pub TakesWhatIsNamed : Type 0
TakesWhatIsNamed = (n : Net) (ths : List Thread) (resources : ℕ) → IsNetOf n ths → ThreadsName resources ths →
    (e : Edge) (r : ℕ) → HasEdge n e → IsTrue (takes e.op r) → r < resources

abbrev pub GivesWhatIsNamed : Type 0
GivesWhatIsNamed = (n : Net) (ths : List Thread) (resources : ℕ) → IsNetOf n ths → ThreadsName resources ths →
    (e : Edge) (r : ℕ) → HasEdge n e → IsTrue (gives e.op r) → r < resources

-- a thread goes to sleep by giving what it takes again before it gives anything
abbrev pub SleepersWake : Type 0
SleepersWake = (n : Net) (ths : List Thread) → IsNetOf n ths → (e : Edge) → HasEdge n e → IsTrue (n.waiting e.to) →
    (r k : ℕ) × (e.op ≡ Release r) × Wakes n r e.to k

-- from each point there is a path to the last point of its thread
abbrev pub PathsEnd : Type 0
PathsEnd = (n : Net) (ths : List Thread) → IsNetOf n ths → (p : ℕ) → p < n.points → (k q : ℕ) × Path n p q k × IsLastFor ths p q
