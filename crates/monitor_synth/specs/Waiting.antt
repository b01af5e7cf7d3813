-- Where a monitor would be held by a thread that waits.
use Rattle.std.specs.Prelude.{◌≡◌, ℕ, ◌<◌, IsTrue}
use Rattle.net_laws.specs.Net.{Net}

-- the first point at which a thread waits for a signal and the number isn't 0
pub record IsFirstWaiting (n : Net) (m : ℕ → ℕ) (p : ℕ) : Type 0 where
  pub point : p < n.points
  pub waits : IsTrue (n.waiting p)
  pub above : 0 < m p
  pub before : (q : ℕ) → q < p → IsTrue (n.waiting q) → m q ≡ 0
