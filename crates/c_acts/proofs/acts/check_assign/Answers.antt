use Rattle.c_tree.specs.Expressions.{expr_of, place_of}
use Rattle.c_rules.specs.declared.role.Role.TheVariants.{Value}
use Rattle.c_rules.specs.Uses.{of_expr, of_place}
use Rattle.c_names.specs.Tables.{in_scope}
use Rattle.c_acts.specs.Uses.{around}
use Rattle.c_acts.proofs.Noted.{noted_uses}
use Rattle.c_acts.proofs.acts.check_assign.Goals as goal

pub returns : goal.returns
returns c =
    let a = around c.args.at.now in
    let inside = in_scope c.args.scope.now in
    noted_uses a inside c.args.line c.args.first.now c.check_place.new.first c.check_expr.new.first (of_place Value (place_of c.args.target.now)) (of_expr (expr_of c.args.value.now))
    c.check_place.ensures c.check_expr.ensures
