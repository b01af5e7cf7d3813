use Rattle.std.proofs.Common.{◌≡◌, ℕ, ◌<◌, ◌≤◌}
use Rattle.std.specs.Prelude.{IsTrue}
use Rattle.c_meaning.specs.Closed.{has, Stays, HoldsEach}
use Rattle.c_meaning.proofs.closed.largest.Given as goal

-- each closed set is in what is left after the next sweep; where that is the same, all threads stay
abbrev pub invariant-loop-next : goal.invariant-loop-next
invariant-loop-next g l =
    (l.next ≤ l.set)
    × (l.set ≤ 4294967295)
    × (l.next ≡ l.set → (t : ℕ) → t < 32 → IsTrue (has l.set t) → Stays (g.B.Blocking.blocked l.fn.threads) (g.B.Blocking.holder l.fn.threads) (has l.set) t)
    × (HoldsEach (g.B.Blocking.blocked l.fn.threads) (g.B.Blocking.holder l.fn.threads) l.set)
    × (HoldsEach (g.B.Blocking.blocked l.fn.threads) (g.B.Blocking.holder l.fn.threads) l.next)

abbrev pub decreases-loop-next : goal.decreases-loop-next
decreases-loop-next g l = l.set
