use Rattle.std.proofs.Common.{◌≡◌, ℕ, ◌<◌, ◌≤◌}
use Rattle.std.specs.Prelude.{IsTrue}
use Rattle.c_meaning.specs.Closed.{has, Stays, HoldsEach}
use Rattle.c_meaning.proofs.closed.sweep.Given as goal

-- where nothing was removed, the threads so far stay; what is left holds each closed set
abbrev pub invariant-loop-t : goal.invariant-loop-t
invariant-loop-t g l =
    (l.left ≤ l.fn.set)
    × (l.left ≡ l.fn.set → (t : ℕ) → t < l.t → IsTrue (has l.fn.set t) → Stays (g.B.Blocking.blocked l.fn.threads) (g.B.Blocking.holder l.fn.threads) (has l.fn.set) t)
    × (HoldsEach (g.B.Blocking.blocked l.fn.threads) (g.B.Blocking.holder l.fn.threads) l.fn.set → HoldsEach (g.B.Blocking.blocked l.fn.threads) (g.B.Blocking.holder l.fn.threads) l.left)
