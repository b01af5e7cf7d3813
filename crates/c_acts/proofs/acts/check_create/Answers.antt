use Rattle.std.proofs.Common.{ap, ◌∙◌}
use Rattle.c_tree.specs.Expressions.{expr_of, place_of}
use Rattle.c_rules.specs.declared.role.Role.TheVariants.{OfThread, Start}
use Rattle.c_rules.specs.Uses.{plain, of_expr, of_place}
use Rattle.c_names.specs.Tables.{in_scope}
use Rattle.c_acts.specs.First.{noted_all}
use Rattle.c_acts.specs.Uses.{around, use_breaks}
use Rattle.c_acts.specs.Acts.{create_breaks}
use Rattle.c_acts.proofs.Noted.{noted_call}
use Rattle.c_acts.proofs.acts.check_create.Goals as goal

pub returns : goal.returns
returns c =
    let a = around c.args.at.now in
    let inside = in_scope c.args.scope.now in
    noted_call a inside c.args.line c.args.first.now c.check_place.new.first c.check_use.new.first c.check_expr.new.first
    c.check_start.new.first (of_place OfThread (place_of c.args.slot.now)) (of_expr (expr_of c.args.arg.now)) (plain Start c.args.function.now)
    (create_breaks c.args.unfixed c.args.line (expr_of c.args.arg.now)) c.check_place.ensures
    (c.check_use.ensures ∙ ap (λ n. noted_all c.check_place.new.first (use_breaks a inside c.args.line (plain Start n))) c.as_slice-name.ensures)
    c.check_expr.ensures c.check_start.ensures
