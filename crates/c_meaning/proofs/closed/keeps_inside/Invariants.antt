use Rattle.std.proofs.Common.{ℕ, ◌<◌}
use Rattle.std.specs.Prelude.{IsTrue}
use Rattle.c_meaning.specs.Closed.{has}
use Rattle.c_meaning.proofs.closed.keeps_inside.Given as goal

-- the holders so far are in the set
abbrev pub invariant-loop-u : goal.invariant-loop-u
invariant-loop-u g l = (v : ℕ) → v < l.u → IsTrue (g.B.Blocking.holder l.threads v l.r) → IsTrue (has l.set v)
