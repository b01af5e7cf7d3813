use Rattle.std.proofs.Common.{arith, sym, ap, ◌∙◌, inl, inr, refl, slice_index, get_or}
use Rattle.place_sets.specs.Lists.{stands_in}
use Rattle.std.proofs.lemmas.Bool.{cases_eq}
use Rattle.place_sets.proofs.ListLaws.{part_from_all}
use Rattle.place_sets.proofs.list_set.ListSetPlaceSet.subset.Goals as goal

pub has-requires : goal.has-requires
has-requires c =
    let set = c.args.self.now in
    let at = c.loop-place.place-index in
    let is = ap (λ places. get_or places at 0) c.deref-place-items.ensures.value in
    record { below = omega (arith, is, set.below at 0 (omega (arith, c.loop-place-test.true, c.deref-place-items.ensures.len)), c.requires.one_size) }

pub loop-place-preserved : goal.loop-place-preserved
loop-place-preserved c k less =
    let set = c.args.self.now in
    let at = c.loop-place.place-index in
    elim (cases_eq k at) [
      | inl here ↦
          let is = ap (λ places. get_or places at 0) c.deref-place-items.ensures.value in
          ap (λ i. stands_in c.args.other.now.places.items (slice_index set.places.items i)) here
          ∙ sym (ap (λ place. stands_in c.args.other.now.places.items place) is) ∙ sym c.has.ensures.has ∙ c.if-not-has.false
      | inr before ↦ c.loop-place.invariant k (omega arith)
    ]

pub returns : goal.returns
returns c =
    let set = c.args.self.now in
    record {
      part = (
        λ _. part_from_all set.places.items (stands_in c.args.other.now.places.items)
            (λ k within. c.loop-place.invariant k (omega (arith, c.loop-place-test.false, c.deref-place-items.ensures.len))),
        λ _. refl,
      );
    }
