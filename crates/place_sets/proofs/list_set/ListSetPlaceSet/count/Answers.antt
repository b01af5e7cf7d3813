use Rattle.std.proofs.Common.{arith}
use Rattle.std.proofs.lemmas.Map.Keys.{sorted_from_strictly_increasing}
use Rattle.std.proofs.lemmas.Map.Views.{length-le_from_below}
use Rattle.place_sets.proofs.ListLaws.{places_are_counted}
use Rattle.place_sets.proofs.list_set.ListSetPlaceSet.count.Goals as goal

pub prove-unreachable-requires : goal.prove-unreachable-requires
prove-unreachable-requires c =
    let set = c.args.self.now in
    omega (arith, c.if-prove.true, c.len.ensures, length-le_from_below set.size set.places.items (sorted_from_strictly_increasing set.places.items set.ascending) set.below)

pub returns : goal.returns
returns c =
    let set = c.args.self.now in
    let rises = sorted_from_strictly_increasing set.places.items set.ascending in
    record { count = omega (arith, c.len-2.ensures, places_are_counted set.places.items 0 set.size rises (λ k d within. omega arith) (λ k d within. omega (arith, set.below k d within))) }
