use Rattle.std.proofs.Common.{◌∙◌, sym, rules, tests}
use Rattle.std.proofs.lemmas.Iterator.{YieldsList-from_slice}
use Rattle.std.proofs.lemmas.Iterator.Search.{all_from_yields_List}
use Rattle.std.proofs.lemmas.List.Folds.{list_all-map}
use Rattle.c_tree.specs.declared.program.Object.{Object}
use Rattle.c_tree.specs.Lined.{bare_object}
use Rattle.first_form.specs.FirstForm.{is_ready_mutex}
use Rattle.first_form.proofs.form.are_ready.Goals as goal

pub returns : goal.returns
returns c =
    let mutexes = c.args.mutexes.now in
    all_from_yields_List (λ (x : Object). is_ready_mutex (bare_object x)) _ _ _ c.all.ensures.ran (YieldsList-from_slice mutexes cc) (λ x b q k. search (rules, tests))
    ∙ sym (list_all-map is_ready_mutex bare_object mutexes)
