use Rattle.std.proofs.Common.{ap, sym, ◌∙◌}
use Rattle.c_tree.specs.Expressions.{exprs_of}
use Rattle.c_rules.specs.Uses.{of_exprs}
use Rattle.c_rules.specs.Using.{count_of}
use Rattle.c_names.specs.Tables.{in_scope}
use Rattle.c_acts.specs.First.{noted_all}
use Rattle.c_acts.specs.Uses.{around, uses_breaks}
use Rattle.c_acts.specs.Acts.{print_breaks}
use Rattle.c_acts.proofs.Noted.{noted_both, count_shown}
use Rattle.c_acts.proofs.acts.check_print.Goals as goal

pub returns : goal.returns
returns c =
    let a = around c.args.at.now in
    let inside = in_scope c.args.scope.now in
    noted_both c.args.first.now c.check_exprs.new.first c.check_format.new.first (uses_breaks a inside c.args.line (of_exprs (exprs_of c.args.args.now)))
    (print_breaks c.args.line c.args.format.now (count_of (exprs_of c.args.args.now)))
    (c.check_exprs.ensures ∙ ap (λ es. noted_all c.args.first.now (uses_breaks a inside c.args.line (of_exprs (exprs_of es)))) c.as_slice.ensures)
    (c.check_format.ensures ∙ ap (λ f. noted_all c.check_exprs.new.first (print_breaks c.args.line f c.len.result)) c.as_slice-2.ensures
    ∙ ap (λ n. noted_all c.check_exprs.new.first (print_breaks c.args.line c.args.format.now n)) (c.len.ensures ∙ sym (count_shown c.args.args.now)))
