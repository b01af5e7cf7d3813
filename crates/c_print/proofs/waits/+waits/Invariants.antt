use Rattle.std.proofs.Common.{◌≡◌, drop}
use Rattle.c_tree.specs.Lined.{stmts_of, bare_stmts}
use Rattle.c_canonical.specs.Waits as spec
use Rattle.c_print.proofs.waits.+waits.Given as goal

-- none so far is, or holds, a wait that takes tokens
abbrev pub invariant-any_waits-loop-s : goal.invariant-any_waits-loop-s
invariant-any_waits-loop-s l = spec.any_waits (bare_stmts (stmts_of (drop l.s-index l.ss))) ≡ spec.any_waits (bare_stmts (stmts_of l.ss))
