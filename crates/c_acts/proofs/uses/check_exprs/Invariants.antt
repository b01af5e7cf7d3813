use Rattle.std.proofs.Common.{◌≡◌, drop}
use Rattle.c_tree.specs.Expressions.{exprs_of}
use Rattle.c_rules.specs.Uses.{of_exprs}
use Rattle.c_names.specs.Tables.{in_scope}
use Rattle.c_acts.specs.First.{noted_all}
use Rattle.c_acts.specs.Uses.{around, uses_breaks}
use Rattle.c_acts.proofs.uses.check_exprs.Given as goal

-- what the expressions that are left break leads to what all break
abbrev pub invariant-loop-e : goal.invariant-loop-e
invariant-loop-e l =
    noted_all l.first (uses_breaks (around l.at) (in_scope l.scope) l.line (of_exprs (exprs_of (drop l.e-index l.es))))
    ≡ noted_all l.fn.first (uses_breaks (around l.at) (in_scope l.scope) l.line (of_exprs (exprs_of l.es)))
