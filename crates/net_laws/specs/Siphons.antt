-- Siphons: sets of places that no edge puts into without taking from them. A set of places is given by its points and
-- its resources.
use Rattle.std.specs.Prelude.{◌≡◌, ℕ, zero, suc, ◌+◌, ◌<◌, Bool, ◌==◌, IsTrue, IsFalse, ◌⊎◌}
use Rattle.edges.specs.declared.Edge.{Edge}
use Rattle.edges.specs.Ops.{takes, gives}
use Rattle.net_laws.specs.Net.{Net, HasEdge}

-- the edge takes from the set: from the point that it leaves, or from a resource
abbrev pub TakesFrom : Edge → (ℕ → Type 0) → (ℕ → Type 0) → Type 0
TakesFrom e points resources = points e.from ⊎ ((r : ℕ) × IsTrue (takes e.op r) × resources r)

-- the edge puts into the set: into the point that it leads to, or into a resource
abbrev pub PutsInto : Edge → (ℕ → Type 0) → (ℕ → Type 0) → Type 0
PutsInto e points resources = points e.to ⊎ ((r : ℕ) × IsTrue (gives e.op r) × resources r)

-- each edge that puts into the set takes from it
abbrev pub IsSiphon : Net → (ℕ → Type 0) → (ℕ → Type 0) → Type 0
IsSiphon n points resources = (e : Edge) → HasEdge n e → PutsInto e points resources → TakesFrom e points resources

-- the edge takes nothing of R
abbrev pub TakesNone : (ℕ → Bool) → Edge → Type 0
TakesNone R e = (r : ℕ) → IsTrue (R r) → IsFalse (takes e.op r)

-- the edge takes one of R
abbrev pub TakesOne : (ℕ → Bool) → Edge → Type 0
TakesOne R e = (r : ℕ) × IsTrue (R r) × IsTrue (takes e.op r)

-- the edge gives one of R
abbrev pub GivesOne : (ℕ → Bool) → Edge → Type 0
GivesOne R e = (r : ℕ) × IsTrue (R r) × IsTrue (gives e.op r)

-- a path of so many edges from the point takes nothing of R, and behind it an edge gives one of R
abbrev pub Leads : Net → (ℕ → Bool) → ℕ → ℕ → Type 0
Leads n R p zero = (e : Edge) × HasEdge n e × (e.from ≡ p) × GivesOne R e
Leads n R p (suc k) = (e : Edge) × HasEdge n e × (e.from ≡ p) × TakesNone R e × Leads n R e.to k

-- the points of the least siphon of R; its resources are R
abbrev pub InSiphon : Net → (ℕ → Bool) → ℕ → Type 0
InSiphon n R p = (k : ℕ) × Leads n R p k

-- the places of the least siphon of R: point p is place p, and resource r is place points + r
abbrev pub HasPlace : Net → (ℕ → Bool) → ℕ → Type 0
HasPlace n R place = ((place < n.points) × InSiphon n R place) ⊎ ((r : ℕ) × IsTrue (R r) × (place ≡ n.points + r))

-- the least siphon of Q lies in that of R
pub record LiesIn (n : Net) (Q R : ℕ → Bool) : Type 0 where
  pub resources : (r : ℕ) → IsTrue (Q r) → IsTrue (R r)
  pub points : (p : ℕ) → InSiphon n Q p → InSiphon n R p

-- the set of one resource
abbrev pub only : ℕ → ℕ → Bool
only q r = r == q
