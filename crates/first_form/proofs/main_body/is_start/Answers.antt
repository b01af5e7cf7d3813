use Rattle.std.proofs.Common.{◌∙◌, ◌&&◌, sym, bytes_eq, rules, tests}
use Rattle.std.proofs.lemmas.Iterator.{YieldsList-from_slice}
use Rattle.std.proofs.lemmas.Iterator.Search.{any_from_yields_List}
use Rattle.c_tree.specs.declared.program.Function.{Function}
use Rattle.first_form.specs.FirstForm.{is_thread_kind}
use Rattle.first_form.proofs.OuterNames.{starts_shown}
use Rattle.first_form.proofs.main_body.is_start.Goals as goal

pub returns : goal.returns
returns c =
    let name = c.args.name.now in
    let functions = c.args.p.now.functions in
    any_from_yields_List (λ (f : Function). is_thread_kind f.kind && bytes_eq name f.name) _ _ _ c.any.ensures.ran (YieldsList-from_slice functions cc) (λ x b q k. search (rules, tests))
    ∙ sym (starts_shown c.args.p.now name)
