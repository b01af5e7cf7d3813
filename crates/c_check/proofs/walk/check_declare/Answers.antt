use Rattle.c_tree.specs.Expressions.{value_of}
use Rattle.c_names.specs.Tables.{in_scope}
use Rattle.c_acts.specs.Uses.{around}
use Rattle.c_check.proofs.Walks.{declare_breaks_both, same_tests}
use Rattle.c_check.proofs.walk.check_declare.Goals as goal

pub returns-clause-breaks : goal.returns-clause-breaks
returns-clause-breaks c =
    declare_breaks_both (around c.args.at.now) (in_scope c.args.scope.now) (in_scope c.enter.new.scope) c.args.first.now c.check_local.new.first c.check_value.new.first
    c.args.line c.args.name.now (value_of c.args.value.now) (same_tests _ _ c.in_ok-enter.ensures.scoped) c.check_local.ensures c.check_value.ensures
