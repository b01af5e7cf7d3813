use Rattle.std.proofs.Common.{◌∙◌, sym, ap, bytes_eq, rules, tests}
use Rattle.std.proofs.lemmas.Iterator.{YieldsList-from_slice}
use Rattle.std.proofs.lemmas.Iterator.Search.{any_from_yields_List}
use Rattle.c_tree.specs.declared.program.Slot.{Slot}
use Rattle.c_rules.specs.Names.{mentions}
use Rattle.first_form.proofs.Lists.{mentions_of}
use Rattle.first_form.proofs.OuterNames.{slots_of_shown}
use Rattle.first_form.proofs.main_body.is_slot_name.Goals as goal

pub returns : goal.returns
returns c =
    let name = c.args.name.now in
    let slots = c.args.p.now.threads in
    any_from_yields_List (λ (s : Slot). bytes_eq name s.name) _ _ _ c.any.ensures.ran (YieldsList-from_slice slots cc) (λ x b q k. search (rules, tests))
    ∙ sym (ap (λ names. mentions names name) (slots_of_shown c.args.p.now) ∙ mentions_of (λ (s : Slot). s.name) slots name)
