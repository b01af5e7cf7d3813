use Rattle.std.proofs.Common.{ℕ, ◌<◌, length, sym, ap, ◌∙◌, subst, List}
use Rattle.std.specs.Prelude.{slice_index_or}
use Rattle.gadara_net.specs.Flows.{targets_of}
use Rattle.gadara_net.proofs.Flowing.{targets_below}
use Rattle.gadara_net.proofs.net.Net.net.Goals as goal

pub new-requires-clause-below : goal.new-requires-clause-below
new-requires-clause-below c =
    let below = targets_below c.args.flow.edges c.len.result (λ k e at. subst (λ n. e.to < n) (sym c.len.ensures) (c.requires.shaped.leads e (k, at)).1) in
    let P : List ℕ → Type 0 = λ xs. (k d : ℕ) → k < length xs → slice_index_or xs k d < c.len.result in
    subst P (sym (c.deref.ensures.value ∙ (c.in_ok-targets.ensures ∙ ap targets_of c.as_slice.ensures))) below
