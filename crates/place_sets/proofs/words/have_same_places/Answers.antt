use Rattle.std.proofs.Common.{◌*◌, ◌/◌, length, arith, inl, inr}
use Rattle.std.proofs.lemmas.Bool.{both_ways, cases_lt}
use Rattle.place_sets.proofs.BitLaws.{same_from_words, words_from_same}
use Rattle.place_sets.proofs.words.have_same_places.Goals as goal

pub returns-then-first_blocks_are_same : goal.returns-then-first_blocks_are_same
returns-then-first_blocks_are_same c =
    let one = c.args.one.now in
    let other = c.args.other.now in (
      λ t. same_from_words one other c.requires (λ k low within. elim (cases_lt k (8 * (length one / 8))) [
        | inl first ↦ c.first_blocks_are_same.ensures.0 c.if-first_blocks_are_same.true k low first
        | inr later ↦ c.rest_is_same.ensures.0 t k later within
      ]),
      λ same. c.rest_is_same.ensures.1 (λ k low within. words_from_same one other (λ k. (c.type_inv.one k).fits) (λ k. (c.type_inv.other k).fits) same k (omega arith) within),
    )

pub returns-else-first_blocks_are_same : goal.returns-else-first_blocks_are_same
returns-else-first_blocks_are_same c =
    let one = c.args.one.now in
    let other = c.args.other.now in (
      λ t. absurd (both_ways _ c.if-first_blocks_are_same.false t),
      λ same. c.first_blocks_are_same.ensures.1 (λ k low within. words_from_same one other (λ k. (c.type_inv.one k).fits) (λ k. (c.type_inv.other k).fits) same k low (omega arith)),
    )
