-- Weights of points for a set of resources, and the weights that are moved back to where a monitor is taken.
use Rattle.std.specs.Prelude.{◌≡◌, ℕ, zero, suc, ◌-◌, ◌<◌, ◌≤◌, Bool, true, false, not, ◌&&◌, IsTrue, IsFalse, ◌⊎◌, ◌↔◌}
use Rattle.edges.specs.declared.EdgeOp.{EdgeOp}
use Rattle.edges.specs.declared.EdgeOp.TheVariants.{Plain, Acquire, Try, Reacquire, Release}
use Rattle.edges.specs.declared.Edge.{Edge}
use Rattle.edges.specs.Ops.{blocks}
use Rattle.net_laws.specs.Net.{Net, HasEdge, one}
use Rattle.net_laws.specs.Siphons.{InSiphon}
use Rattle.net_laws.specs.Lines.{held_of}
use Rattle.weight_laws.specs.Flow.{branches, tries}

-- R is a set of resources of the net, and S the points of its least siphon
pub record IsMarked (n : Net) (R S : ℕ → Bool) : Type 0 where
  pub named : (r : ℕ) → IsTrue (R r) → r < n.resources
  pub exact : (p : ℕ) → IsTrue (S p) ↔ InSiphon n R p

-- what the point holds of the set, and one less at a point of the least siphon
abbrev pub weight : Net → (ℕ → Bool) → (ℕ → Bool) → ℕ → ℕ
weight n R S p = held_of n R p - one (S p)

-- the operation takes nothing
abbrev pub is_quiet : EdgeOp → Bool
is_quiet Plain = true
is_quiet (Acquire r) = false
is_quiet (Try r) = false
is_quiet (Reacquire r) = false
is_quiet (Release r) = true

-- weights are moved back along each edge but those that acquire or reacquire and those of a lock that is tried
abbrev pub follows : Net → Edge → Bool
follows n e = is_quiet e.op && not (tries n e.from)

-- so many edges, along which weights are moved, from p to q
abbrev pub Follows : Net → ℕ → ℕ → ℕ → Type 0
Follows n p q zero = p ≡ q
Follows n p q (suc k) = (e : Edge) × HasEdge n e × (e.from ≡ p) × IsTrue (follows n e) × Follows n e.to q k

-- m is at each point the greatest of the numbers w at it and at the points that such edges lead to
pub record IsMovedFrom (n : Net) (w m : ℕ → ℕ) : Type 0 where
  pub bound : (k p q : ℕ) → Follows n p q k → w q ≤ m p
  pub met : (p : ℕ) → (k q : ℕ) × Follows n p q k × (w q ≡ m p)

-- m is at each point its moved weight for R
abbrev pub IsMoved : Net → (ℕ → Bool) → (ℕ → Bool) → (ℕ → ℕ) → Type 0
IsMoved n R S = IsMovedFrom n (weight n R S)

-- the entry weight of a point: the greatest of the moved weights at it and behind its edges
pub record IsEntry (n : Net) (m entry : ℕ → ℕ) : Type 0 where
  pub own : (p : ℕ) → m p ≤ entry p
  pub next : (e : Edge) → HasEdge n e → m e.to ≤ entry e.from
  pub met : (p : ℕ) → (entry p ≡ m p) ⊎ ((e : Edge) × HasEdge n e × (e.from ≡ p) × (entry p ≡ m e.to))

-- a monitor of these moved weights isn't held where a thread waits for a signal
abbrev pub IsAdmissible : Net → (ℕ → ℕ) → Type 0
IsAdmissible n m = (p : ℕ) → p < n.points → IsTrue (n.waiting p) → m p ≡ 0

-- an edge along which the moved weight may rise: one that acquires or reacquires, or an outcome of a lock that is tried
abbrev pub MayRise : Net → Edge → Type 0
MayRise n e = ((r : ℕ) × IsTrue (blocks e.op r)) ⊎ IsTrue (tries n e.from)

-- an edge along which the moved weight may fall: a release that isn't a wait's, or an outcome of a test or of a lock
-- that is tried
abbrev pub MayFall : Net → Edge → Type 0
MayFall n e = ((r : ℕ) × (e.op ≡ Release r) × IsFalse (n.waiting e.to)) ⊎ IsTrue (branches n e.from)
