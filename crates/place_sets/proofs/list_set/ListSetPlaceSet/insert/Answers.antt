use Rattle.std.proofs.Common.{ℕ, ◌<◌, length, not, cond, arith, sym, ap, ◌∙◌, subst, List, All, Err, is_ok, insert, vec_capacity, vec_len}
use Rattle.std.specs.List.Sorted.{IsStrictlyIncreasing, IsBinarySearchResult}
use Rattle.std.specs.Ordering.{nat_cmp}
use Rattle.place_sets.specs.Lists.{stands_in}
use Rattle.place_sets.specs.Sets.{HasGained}
use Rattle.std.proofs.lemmas.Map.Keys.{sorted_from_strictly_increasing}
use Rattle.std.proofs.lemmas.Bool.{both_ways}
use Rattle.std.proofs.lemmas.Map.Views.{length-le_from_below}
use Rattle.std.proofs.lemmas.List.Edits.{length-insert}
use Rattle.place_sets.proofs.ListLaws.{between_from_search, gains_place, had_place, insert_rises, insert_below, stands_from_search}
use Rattle.place_sets.proofs.list_set.ListSetPlaceSet.insert.Goals as goal

-- with a place that isn't in, the list is sorted, and is no longer than its size
grown : (places : List ℕ) (place at size : ℕ) → IsStrictlyIncreasing places → All (λ p. p < size) places → place < size
    → IsBinarySearchResult (λ y. nat_cmp y place) places (Err at)
    → IsStrictlyIncreasing (insert places at place) × All (λ p. p < size) (insert places at place) × (length places < size)
grown places place at size rises below less found =
    let between = between_from_search places place at rises found in
    let new_rises = insert_rises places at place rises between.0 between.1 between.2 in
    let new_below = insert_below places at place size between.0 less below in
    let long = length-le_from_below size (insert places at place) (sorted_from_strictly_increasing _ new_rises) new_below in
    (new_rises, new_below, omega (arith, length-insert places at place between.0))

pub unreachable-requires : goal.unreachable-requires
unreachable-requires c =
    let set = c.args.self.now in
    let found = subst (λ places. IsBinarySearchResult (λ y. nat_cmp y c.args.place) places (Err c.in-Err.at)) c.deref.ensures.value (c.in-Err.ensures).position in
    let new = grown set.places.items c.args.place c.in-Err.at set.size set.ascending set.below c.requires.below found in
    let room : vec_len set.places < vec_capacity set.places = omega (arith, new.2, set.room) in
    both_ways _ (c.is_err.ensures.negation ∙ ap not c.if-is_err.true) (c.insert.ensures.succeeds room)

pub invariant_of-self : goal.invariant_of-self
invariant_of-self c =
    let set = c.args.self.now in
    let found = subst (λ places. IsBinarySearchResult (λ y. nat_cmp y c.args.place) places (Err c.in-Err.at)) c.deref.ensures.value (c.in-Err.ensures).position in
    let new = grown set.places.items c.args.place c.in-Err.at set.size set.ascending set.below c.requires.below found in
    let ok = c.is_err.ensures.negation ∙ ap not c.if-is_err.false in
    let is = c.insert.ensures.items ∙ ap (λ b. cond b (insert set.places.items c.in-Err.at c.args.place) set.places.items) ok in
    record {
      ascending = subst IsStrictlyIncreasing (sym is) new.0;
      below = subst (λ (places : List ℕ). All (λ p. p < set.size) places) (sym is) new.1;
      room = omega (arith, set.room, c.insert.ensures.capacity);
    }

pub returns-else-is_err-clause-gained : goal.returns-else-is_err-clause-gained
returns-else-is_err-clause-gained c =
    let set = c.args.self.now in
    let ok = c.is_err.ensures.negation ∙ ap not c.if-is_err.false in
    let is = c.insert.ensures.items ∙ ap (λ b. cond b (insert set.places.items c.in-Err.at c.args.place) set.places.items) ok in
    subst (λ (places : List ℕ). HasGained (stands_in set.places.items) (stands_in places) c.args.place) (sym is) (gains_place set.places.items c.in-Err.at c.args.place)

pub returns-in_default-clause-gained : goal.returns-in_default-clause-gained
returns-in_default-clause-gained c =
    let set = c.args.self.now in
    let found = subst (λ places. IsBinarySearchResult (λ y. nat_cmp y c.args.place) places c.binary_search.result) c.deref.ensures.value c.binary_search.ensures.position in
    let stands = sym (stands_from_search set.places.items c.args.place c.binary_search.result set.ascending found) ∙ ap is_ok c.in_default.is in
    had_place set.places.items c.args.place stands
