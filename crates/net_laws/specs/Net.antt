-- Nets: the points of threads, the edges between them, and the resources whose tokens are taken and given along edges.
use Rattle.std.specs.Prelude.{◌≡◌, ℕ, ◌+◌, ◌<◌, ◌≤◌, Bool, true, false, List, IsTrue, slice_get, Some}
use Rattle.edges.specs.declared.Edge.{Edge}
use Rattle.edges.specs.Ops.{takes, blocks, gives}

pub record Net : Type 0 where
  pub threads : ℕ
  pub mutexes : ℕ  -- the resources below it are mutexes, those from it on monitors
  pub resources : ℕ
  pub points : ℕ
  pub edges : List Edge
  pub thread_of : ℕ → ℕ  -- of a point
  pub waiting : ℕ → Bool  -- whether the thread waits for a signal at a point
  pub tokens : ℕ → ℕ  -- of a resource in all
  pub held : ℕ → ℕ → ℕ  -- at a point, of a resource

-- an edge of the net
abbrev pub HasEdge : Net → Edge → Type 0
HasEdge n e = (k : ℕ) × (slice_get n.edges k ≡ Some e)

abbrev pub one : Bool → ℕ
one true = 1
one false = 0

-- what is held is the account of the edges; where a thread may be blocked there is one edge; what is taken or given
-- is a resource of the net, and each has tokens
pub record IsNet (n : Net) : Type 0 where
  pub accounts : (e : Edge) (r : ℕ) → HasEdge n e → n.held e.to r + one (gives e.op r) ≡ n.held e.from r + one (takes e.op r)
  pub sole : (e f : Edge) (r : ℕ) → HasEdge n e → HasEdge n f → e.from ≡ f.from → IsTrue (blocks e.op r) → e ≡ f
  pub taken : (e : Edge) (r : ℕ) → HasEdge n e → IsTrue (takes e.op r) → r < n.resources
  pub given : (e : Edge) (r : ℕ) → HasEdge n e → IsTrue (gives e.op r) → r < n.resources
  pub filled : (r : ℕ) → r < n.resources → 0 < n.tokens r

-- edges lead between points, points are of threads, a mutex has one token, and a mask has a bit for each resource
pub record IsShaped (n : Net) : Type 0 where
  pub leads : (e : Edge) → HasEdge n e → (e.from < n.points) × (e.to < n.points)
  pub of_threads : (p : ℕ) → p < n.points → n.thread_of p < n.threads
  pub kinds : n.mutexes ≤ n.resources
  pub single : (r : ℕ) → r < n.mutexes → n.tokens r ≡ 1
  pub few : n.resources ≤ 64

-- no point holds more of a resource than its tokens: a mutex once, a monitor up to its capacity
pub record IsFitting (n : Net) : Type 0 where
  pub fits : (p r : ℕ) → p < n.points → r < n.resources → n.held p r ≤ n.tokens r
