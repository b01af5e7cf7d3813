use Rattle.std.proofs.Common.{◌∙◌, sym, ℕ, List, rules, tests, bytes_eq}
use Rattle.std.proofs.lemmas.Iterator.{YieldsList-from_slice}
use Rattle.std.proofs.lemmas.Iterator.Search.{any_from_yields_List}
use Rattle.c_names.proofs.Lists.{list_any-map}
use Rattle.c_names.proofs.names.is_among.Goals as goal
use denote.Ref.{Bor}

pub returns : goal.returns
returns c =
    let words = c.args.words.now in
    any_from_yields_List (λ (k : Bor (List ℕ)). bytes_eq c.args.name.now k.now) _ _ _ c.any.ensures.ran (YieldsList-from_slice words cc) (λ x b q k. search (rules, tests))
    ∙ sym (list_any-map (bytes_eq c.args.name.now) (λ (k : Bor (List ℕ)). k.now) words)
