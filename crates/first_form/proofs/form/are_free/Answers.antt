use Rattle.std.proofs.Common.{◌∙◌, sym, ℕ, List, not, rules, tests}
use Rattle.std.proofs.lemmas.Iterator.{YieldsList-from_slice}
use Rattle.std.proofs.lemmas.Iterator.Search.{all_from_yields_List}
use Rattle.std.proofs.lemmas.List.Folds.{list_all-map}
use Rattle.c_rules.specs.Names.{is_reserved}
use Rattle.first_form.proofs.form.are_free.Goals as goal
use denote.Ref.{Bor}

pub returns : goal.returns
returns c =
    let names = c.args.names.now in
    all_from_yields_List (λ (k : Bor (List ℕ)). not (is_reserved k.now)) _ _ _ c.all.ensures.ran (YieldsList-from_slice names cc) (λ x b q k. search (rules, tests))
    ∙ sym (list_all-map (λ name. not (is_reserved name)) (λ (k : Bor (List ℕ)). k.now) names)
