use Rattle.std.proofs.Common.{◌∙◌, subst}
use Rattle.std.specs.List.Sorted.{IsBinarySearchResult}
use Rattle.std.specs.Ordering.{nat_cmp}
use Rattle.place_sets.proofs.ListLaws.{stands_from_search}
use Rattle.place_sets.proofs.list_set.ListSetPlaceSet.has.Goals as goal

pub returns : goal.returns
returns c =
    let set = c.args.self.now in
    let found = subst (λ places. IsBinarySearchResult (λ y. nat_cmp y c.args.place) places c.binary_search.result) c.deref.ensures.value c.binary_search.ensures.position in
    record { has = c.is_ok.ensures.value ∙ stands_from_search set.places.items c.args.place c.binary_search.result set.ascending found }
