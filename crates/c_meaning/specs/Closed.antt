-- Sets of blocked threads that wait for no other thread, as the bits of a number.
use Rattle.std.specs.Prelude.{◌≡◌, ℕ, ◌<◌, ◌==◌, Bool, IsTrue, Some}
use Rattle.std.specs.declared.option.Option.{Option}
use Rattle.std.specs.Int.{bit_at}

-- a thread is in a set
abbrev pub has : ℕ → ℕ → Bool
has set t = bit_at set t == 1

-- the holders of a resource are below 32
abbrev pub AreFew : (ℕ → ℕ → Bool) → ℕ → Type 0
AreFew holder r = (u : ℕ) → IsTrue (holder u r) → u < 32

-- a thread is blocked for a resource, and all its holders are in a set
pub record Stays (blocked : ℕ → Option ℕ) (holder : ℕ → ℕ → Bool) (threads : ℕ → Bool) (t : ℕ) : Type 0 where
  pub resource : ℕ
  pub waits : blocked t ≡ Some resource
  pub inside : (u : ℕ) → IsTrue (holder u resource) → IsTrue (threads u)

-- each thread of a set is blocked for a resource whose holders are all in the set
pub record IsClosed (blocked : ℕ → Option ℕ) (holder : ℕ → ℕ → Bool) (threads : ℕ → Bool) : Type 0 where
  pub stays : (t : ℕ) → IsTrue (threads t) → Stays blocked holder threads t

-- the threads of a set, as far as they are below 32, are in another one
abbrev pub LiesIn : (ℕ → Bool) → ℕ → Type 0
LiesIn threads set = (t : ℕ) → t < 32 → IsTrue (threads t) → IsTrue (has set t)

-- no set that is closed is larger
abbrev pub HoldsEach : (ℕ → Option ℕ) → (ℕ → ℕ → Bool) → ℕ → Type 0
HoldsEach blocked holder set = (threads : ℕ → Bool) → IsClosed blocked holder threads → LiesIn threads set
