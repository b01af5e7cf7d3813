-- Numbers of points that are raised along followed edges, and the points that are to be done.
use Rattle.std.specs.Prelude.{◌≡◌, ℕ, ◌+◌, ◌-◌, ◌≤◌, ◌^◌, List, length, sum_by, Contains, IsTrue, ◌⊎◌}
use Rattle.edges.specs.declared.Edge.{Edge}
use Rattle.net_laws.specs.Net.{Net, HasEdge}
use Rattle.weight_laws.specs.Weights.{follows, Follows}

-- m is w or more at each point, and is w at one of the points that followed edges lead to
pub record AreReached (n : Net) (w m : ℕ → ℕ) : Type 0 where
  pub own : (p : ℕ) → w p ≤ m p
  pub met : (p : ℕ) → (k q : ℕ) × Follows n p q k × (w q ≡ m p)

-- no followed edge leads to the point from one of a lower number
abbrev pub IsSettled : Net → (ℕ → ℕ) → ℕ → Type 0
IsSettled n m p = (e : Edge) → HasEdge n e → e.to ≡ p → IsTrue (follows n e) → m p ≤ m e.from

-- each point is settled or is to be done
abbrev pub AreSettledBut : Net → (ℕ → ℕ) → List ℕ → Type 0
AreSettledBut n m todo = (p : ℕ) → IsSettled n m p ⊎ Contains todo p

-- no number has fallen, a point whose number has risen is to be done, and so is what was to be done before
pub record HaveRisen (m more : ℕ → ℕ) (todo longer : List ℕ) : Type 0 where
  pub grown : (p : ℕ) → m p ≤ more p
  pub risen : (p : ℕ) → (more p ≡ m p) ⊎ Contains longer p
  pub kept : (p : ℕ) → Contains todo p → Contains longer p

-- the points to be done, and how far the numbers can rise
abbrev pub work_left : List ℕ → List ℕ → ℕ
work_left moved todo = length todo + sum_by (λ number. 2 ^ 64 - number) moved
