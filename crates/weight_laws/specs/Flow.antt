-- What the net of a program keeps: how its points are joined.
use Rattle.std.specs.Prelude.{◌≡◌, ℕ, zero, suc, ◌<◌, Bool, true, false, ◌&&◌, ◌==◌, nat_lt, IsTrue, IsFalse, count_by}
use Rattle.std.specs.List.{list_any}
use Rattle.edges.specs.declared.EdgeOp.{EdgeOp}
use Rattle.edges.specs.declared.EdgeOp.TheVariants.{Plain, Acquire, Try, Reacquire, Release}
use Rattle.edges.specs.declared.Edge.{Edge}
use Rattle.edges.specs.Ops.{takes, gives}
use Rattle.net_laws.specs.Net.{Net, HasEdge, IsNet, IsShaped, IsFitting}

-- several edges leave the point: it is a test, or a lock is tried there
abbrev pub branches : Net → ℕ → Bool
branches n p = nat_lt 1 (count_by (λ e. e.from == p) n.edges)

abbrev pub is_try : EdgeOp → Bool
is_try Plain = false
is_try (Acquire r) = false
is_try (Try r) = true
is_try (Reacquire r) = false
is_try (Release r) = false

-- a lock is tried at the point
abbrev pub tries : Net → ℕ → Bool
tries n p = list_any (λ e. e.from == p && is_try e.op) n.edges

-- so many edges from p to q
abbrev pub Path : Net → ℕ → ℕ → ℕ → Type 0
Path n p q zero = p ≡ q
Path n p q (suc k) = (e : Edge) × HasEdge n e × (e.from ≡ p) × Path n e.to q k

-- so many edges, each the only one of its point and giving nothing, and behind them one that takes r
abbrev pub Wakes : Net → ℕ → ℕ → ℕ → Type 0
Wakes n r p zero = (e : Edge) × HasEdge n e × (e.from ≡ p) × IsFalse (branches n p) × IsTrue (takes e.op r)
Wakes n r p (suc k) = (e : Edge) × HasEdge n e × (e.from ≡ p) × IsFalse (branches n p) × ((s : ℕ) → IsFalse (gives e.op s)) × Wakes n r e.to k

-- a thread that goes to sleep gives a mutex, and takes it again before it gives anything; from each point there is a
-- way to where nothing is held
pub record IsFlow (n : Net) : Type 0 where
  pub net : IsNet n
  pub shaped : IsShaped n
  pub fitting : IsFitting n
  pub asleep : (e : Edge) → HasEdge n e → IsTrue (n.waiting e.to) → (r k : ℕ) × (e.op ≡ Release r) × Wakes n r e.to k
  pub ends : (p : ℕ) → p < n.points → (k q : ℕ) × Path n p q k × ((r : ℕ) → n.held q r ≡ 0)
