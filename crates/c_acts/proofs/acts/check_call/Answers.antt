use Rattle.std.proofs.Common.{ap, sym, ◌∙◌}
use Rattle.std.specs.Prelude.{is_some}
use Rattle.c_tree.specs.Expressions.{exprs_of, target_of}
use Rattle.c_rules.specs.declared.role.Role.TheVariants.{Called}
use Rattle.c_rules.specs.Uses.{plain, of_exprs, of_target}
use Rattle.c_rules.specs.Using.{count_of}
use Rattle.c_names.specs.Tables.{in_scope}
use Rattle.c_acts.specs.First.{noted_all}
use Rattle.c_acts.specs.Uses.{around, use_breaks, uses_breaks}
use Rattle.c_acts.specs.Acts.{call_breaks}
use Rattle.c_acts.proofs.Noted.{noted_call, count_shown}
use Rattle.c_acts.proofs.acts.check_call.Goals as goal

pub returns : goal.returns
returns c =
    let a = around c.args.at.now in
    let inside = in_scope c.args.scope.now in
    noted_call a inside c.args.line c.args.first.now c.check_target.new.first c.check_use.new.first c.check_exprs.new.first
    c.check_callee.new.first (of_target (target_of c.args.target.now)) (of_exprs (exprs_of c.args.args.now)) (plain (Called (is_some c.args.target.now)) c.args.function.now)
    (call_breaks a inside c.args.line c.args.function.now (count_of (exprs_of c.args.args.now)))
    c.check_target.ensures
    (c.check_use.ensures ∙ ap (λ r. noted_all c.check_target.new.first (use_breaks a inside c.args.line (plain (Called r) c.as_slice-name.result.now))) c.is_some.ensures
    ∙ ap (λ n. noted_all c.check_target.new.first (use_breaks a inside c.args.line (plain (Called (is_some c.args.target.now)) n))) c.as_slice-name.ensures)
    (c.check_exprs.ensures ∙ ap (λ es. noted_all c.check_use.new.first (uses_breaks a inside c.args.line (of_exprs (exprs_of es)))) c.as_slice.ensures)
    (c.check_callee.ensures ∙ ap (λ f. noted_all c.check_exprs.new.first (call_breaks a inside c.args.line f c.len.result)) c.as_slice-name.ensures
    ∙ ap (λ n. noted_all c.check_exprs.new.first (call_breaks a inside c.args.line c.args.function.now n)) (c.len.ensures ∙ sym (count_shown c.args.args.now)))
