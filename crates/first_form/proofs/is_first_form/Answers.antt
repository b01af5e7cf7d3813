use Rattle.std.proofs.Common.{◌≡◌, ◌∙◌, sym, subst, IfOk}
use Rattle.first_form.proofs.Heads.{form_from_locks}
use Rattle.first_form.proofs.is_first_form.Goals as goal

pub returns : goal.returns
returns c =
    let same = form_from_locks c.in_ok-scope.scope.program.now c.args.p.now c.in_ok-scope.ensures c.as_slice.result.now c.as_slice-2.result.now c.as_slice.ensures c.as_slice-2.ensures
    (sym c.has_first_declarations.ensures ∙ c.if-not-has_first_declarations.false)
    (sym c.in_ok-has_good_names.ensures ∙ c.if-not-branch.false)
    (sym c.in_ok-has_first_functions.ensures ∙ c.if-not-branch-2.false) in
    subst (λ w. IfOk c.has_balanced_locks.result (λ b. b ≡ w)) same c.has_balanced_locks.ensures
