use Rattle.std.proofs.Common.{◌∙◌, sym, ℕ, List, bytes_eq, rules, tests}
use Rattle.std.proofs.lemmas.Iterator.{YieldsList-from_slice}
use Rattle.std.proofs.lemmas.Iterator.Search.{any_from_yields_List}
use Rattle.first_form.proofs.Lists.{mentions_of}
use Rattle.first_form.proofs.locks.Held.has.Goals as goal
use denote.Ref.{Bor}

pub returns : goal.returns
returns c =
    let name = c.args.name.now in
    let names = c.args.self.now.names.items in
    any_from_yields_List (λ (k : Bor (List ℕ)). bytes_eq name k.now) _ _ _ c.any.ensures.ran (YieldsList-from_slice names cc) (λ x b q k. search (rules, tests))
    ∙ sym (mentions_of (λ (k : Bor (List ℕ)). k.now) names name)
