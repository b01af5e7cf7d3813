use Rattle.std.proofs.Common.{ap, ◌∙◌, rules}
use Rattle.c_tree.specs.Expressions.{expr_of}
use Rattle.c_names.specs.Tables.{in_scope}
use Rattle.c_acts.specs.Uses.{around}
use Rattle.c_acts.proofs.Noted.{noted_binary}
use Rattle.c_acts.proofs.Shown.{binary_of}
use Rattle.c_acts.proofs.uses.+check_expr.Goals as goal

pub returns-in-Binary : goal.returns-in-Binary
returns-in-Binary t c =
    noted_binary (around c.args.at.now) (in_scope c.args.scope.now) c.args.line c.args.first.now c.check_expr-in-Binary.new.first c.check_expr-in-Binary-2.new.first
    (expr_of c.args.e.now) c.in-Binary.op (expr_of c.in-Binary.left) (expr_of c.in-Binary.right) (ap expr_of c.in-Binary.is ∙ binary_of c.in-Binary.op c.in-Binary.left c.in-Binary.right)
    (search rules) (search rules)
