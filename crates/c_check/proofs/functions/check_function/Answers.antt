use Rattle.std.proofs.Common.{ap, ◌∙◌}
use Rattle.c_tree.specs.Lined.{stmts_of}
use Rattle.c_names.specs.Tables.{in_scope}
use Rattle.c_acts.specs.First.{noted_all}
use Rattle.c_acts.specs.Uses.{around}
use Rattle.c_check.specs.Walk.{with_names}
use Rattle.c_check.specs.Own.{nothing_past, own_breaks}
use Rattle.c_check.specs.Functions.{parameter_breaks}
use Rattle.c_check.proofs.Wholes.{function_both, empty_scope}
use Rattle.c_check.proofs.functions.check_function.Goals as goal

pub returns : goal.returns
returns c =
    let a = around c.args.at.now in
    function_both a (in_scope c.new-scope.result) (in_scope c.check_parameters.new.scope) c.args.first.now c.check_parameters.new.first c.check_own.new.first
    c.is_main.result (empty_scope c.new-scope.result.keys c.new-scope.ensures.len)
    (c.in_ok-check_parameters.ensures.scoped ∙ ap (λ x. with_names x (in_scope c.new-scope.result)) c.as_slice.ensures)
    c.is_main.ensures
    (c.in_ok-check_parameters.ensures.breaks ∙ ap (λ x. noted_all c.args.first.now (parameter_breaks a c.args.at.now.function.now.line (in_scope c.new-scope.result) x)) c.as_slice.ensures)
    (c.in_ok-check_own.ensures ∙ ap (λ x. noted_all c.check_parameters.new.first (own_breaks a c.is_main.result (in_scope c.check_parameters.new.scope) nothing_past (stmts_of x))) c.as_slice-2.ensures)
