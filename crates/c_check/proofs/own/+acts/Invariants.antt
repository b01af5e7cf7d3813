use Rattle.std.proofs.Common.{◌≡◌, drop}
use Rattle.c_tree.specs.Lined.{stmts_of}
use Rattle.c_check.specs.Own as spec
use Rattle.c_check.proofs.own.+acts.Given as goal

-- none so far may use an object
abbrev pub invariant-list_acts-loop-s : goal.invariant-list_acts-loop-s
invariant-list_acts-loop-s l = spec.list_acts (stmts_of (drop l.s-index l.ss)) ≡ spec.list_acts (stmts_of l.ss)
