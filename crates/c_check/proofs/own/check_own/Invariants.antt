use Rattle.std.proofs.Common.{◌≡◌, drop}
use Rattle.c_tree.specs.Lined.{stmts_of}
use Rattle.c_names.specs.Tables.{in_scope}
use Rattle.c_acts.specs.First.{noted_all}
use Rattle.c_acts.specs.Uses.{around}
use Rattle.c_check.specs.Own as spec
use Rattle.c_check.proofs.own.check_own.Given as goal

-- what the statements that are left break leads to what all break
abbrev pub invariant-loop-s : goal.invariant-loop-s
invariant-loop-s l =
    noted_all l.first (spec.own_breaks (around l.at) l.main (in_scope l.scope) (spec.past_of l.past) (stmts_of (drop l.s-index l.body)))
    ≡ noted_all l.fn.first (spec.own_breaks (around l.at) l.main (in_scope l.fn.scope) spec.nothing_past (stmts_of l.body))
