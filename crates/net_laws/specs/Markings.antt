-- Markings of a net: where each thread stands, who is blocked there, and which sets are stuck.
use Rattle.std.specs.Prelude.{◌≡◌, ℕ, ◌<◌, ◌≤◌, Bool, List, length, IsTrue, slice_get, Some, sum_by, ◌↔◌}
use Rattle.edges.specs.declared.Edge.{Edge}
use Rattle.edges.specs.Ops.{blocks}
use Rattle.net_laws.specs.Net.{Net, HasEdge}

-- the tokens of the resource that threads at these points hold
abbrev pub total_held : Net → List ℕ → ℕ → ℕ
total_held n m r = sum_by (λ p. n.held p r) m

-- one point for each thread, such that of no resource more tokens are held than it has
pub record IsMarking (n : Net) (m : List ℕ) : Type 0 where
  pub each : length m ≡ n.threads
  pub stands : (t p : ℕ) → slice_get m t ≡ Some p → (p < n.points) × (n.thread_of p ≡ t)
  pub fits : (r : ℕ) → r < n.resources → total_held n m r ≤ n.tokens r

-- the thread is at a point whose edge acquires or reacquires the resource, and no token of it is free
pub record Blocked (n : Net) (m : List ℕ) (t r : ℕ) : Type 0 where
  pub edge : Edge
  pub has : HasEdge n edge
  pub stands : slice_get m t ≡ Some edge.from
  pub blocks : IsTrue (blocks edge.op r)
  pub none_free : total_held n m r ≡ n.tokens r

-- a nonempty set of threads, each blocked for some resource, and only threads of the set hold these resources
pub record IsStuck (n : Net) (m : List ℕ) (T : ℕ → Bool) : Type 0 where
  pub some : (t : ℕ) × IsTrue (T t)
  pub blocked : (t : ℕ) → IsTrue (T t) → (r : ℕ) × Blocked n m t r
  pub inside : (t r u p : ℕ) → IsTrue (T t) → Blocked n m t r → slice_get m u ≡ Some p → 0 < n.held p r → IsTrue (T u)

-- R is what the set of threads is blocked for
abbrev pub IsWanted : Net → List ℕ → (ℕ → Bool) → (ℕ → Bool) → Type 0
IsWanted n m T R = (r : ℕ) → IsTrue (R r) ↔ ((t : ℕ) × IsTrue (T t) × Blocked n m t r)
