use Rattle.std.proofs.Common.{◌≡◌, ◌∙◌, ◌&&◌, not, length, nat_le, sym, ap, is_some, Some}
use Rattle.std.specs.List.{list_all}
use Rattle.c_tree.specs.declared.program.Function.{Function}
use Rattle.c_rules.specs.Names.{mentions, is_reserved}
use Rattle.first_form.specs.FirstForm.{all_differ}
use Rattle.first_form.specs.Sets.{texts, knows, Knows}
use Rattle.first_form.proofs.Heads.{good_names}
use Rattle.first_form.proofs.form.has_good_names.Goals as goal

pub returns-in-Some : goal.returns-in-Some
returns-in-Some c =
    let outer = c.in-Some.outer in
    let names = c.deref-in-Some.result.now in
    let same : names ≡ c.deref.result.now = c.deref-in-Some.ensures.value ∙ sym c.deref.ensures.value in
    let known : Knows outer (texts c.deref.result.now) = rw c.in-Some.is at c.in_ok-outer.ensures.known in
    let differ : is_some (Some outer) ≡ all_differ (texts c.deref.result.now) = rw c.in-Some.is at c.in_ok-outer.ensures.differ in
    c.are_good.ensures
    ∙ ap (λ fs. list_all (λ name. not (is_reserved name)) (texts names) && list_all (λ (f : Function). nat_le (length f.name) 56 && list_all (λ name. not (knows outer name) && not (is_reserved name)) f.params) fs) c.as_slice.ensures
    ∙ good_names c.args.p.now (knows outer) (texts names) (ap texts c.deref-in-Some.ensures.value ∙ c.in_ok-names.ensures)
    (λ name. known name ∙ ap (λ xs. mentions (texts xs) name) (sym same)) (ap (λ xs. all_differ (texts xs)) same ∙ sym differ)
