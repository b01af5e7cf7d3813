use Rattle.std.proofs.Common.{◌∙◌, sym, ℕ, List, rules, tests}
use Rattle.std.proofs.lemmas.Iterator.{YieldsList-from_slice}
use Rattle.std.proofs.lemmas.Iterator.Search.{any_from_yields_List}
use Rattle.c_rules.specs.Names.{mentions}
use Rattle.first_form.specs.FirstForm.{mutexes_of}
use Rattle.first_form.specs.Shown.{shown}
use Rattle.first_form.specs.Sets.{texts}
use Rattle.first_form.proofs.Lists.{list_any-map}
use Rattle.first_form.proofs.HeldNames.{some_held}
use Rattle.first_form.proofs.locks.Held.has_some.Goals as goal
use denote.Ref.{Bor}

pub returns : goal.returns
returns c = λ above held.
    let p = shown c.args.scope.now.program.now in
    let names = c.args.self.now.names.items in
    any_from_yields_List (λ (k : Bor (List ℕ)). mentions (mutexes_of p) k.now) _ _ _ c.any.ensures.ran (YieldsList-from_slice names cc) (λ x b q k. search (rules, tests))
    ∙ sym (list_any-map (mentions (mutexes_of p)) (λ (k : Bor (List ℕ)). k.now) names) ∙ some_held p (texts names) above held
