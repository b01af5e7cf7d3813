use Rattle.std.proofs.Common.{◌∙◌, sym, rules, tests}
use Rattle.std.proofs.lemmas.Iterator.{YieldsList-from_slice}
use Rattle.std.proofs.lemmas.Iterator.Search.{all_from_yields_List}
use Rattle.std.proofs.lemmas.List.Folds.{list_all-map}
use Rattle.c_tree.specs.declared.program.Cell.{Cell}
use Rattle.c_tree.specs.Lined.{bare_cell}
use Rattle.first_form.specs.FirstForm.{is_zero_int}
use Rattle.first_form.proofs.form.are_zero.Goals as goal

pub returns : goal.returns
returns c =
    let ints = c.args.ints.now in
    all_from_yields_List (λ (x : Cell). is_zero_int (bare_cell x)) _ _ _ c.all.ensures.ran (YieldsList-from_slice ints cc) (λ x b q k. search (rules, tests))
    ∙ sym (list_all-map is_zero_int bare_cell ints)
