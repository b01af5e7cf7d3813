use Rattle.std.proofs.Common.{◌*◌, ◌/◌, length, arith, inl, inr}
use Rattle.std.proofs.lemmas.Bool.{both_ways, cases_lt}
use Rattle.place_sets.proofs.BitLaws.{part_from_words, words_from_part}
use Rattle.place_sets.proofs.words.is_part_of.Goals as goal

pub returns-then-blocks_lie_within : goal.returns-then-blocks_lie_within
returns-then-blocks_lie_within c =
    let one = c.args.one.now in
    let other = c.args.other.now in (
      λ t. part_from_words one other (λ k low within. elim (cases_lt k (8 * (length one / 8))) [
        | inl first ↦ c.blocks_lie_within.ensures.0 c.if-blocks_lie_within.true k low first
        | inr later ↦ c.rest_lies_within.ensures.0 t k later within
      ]),
      λ part. c.rest_lies_within.ensures.1 (λ k low within. words_from_part one other (λ k. (c.type_inv.one k).fits) part k (omega arith) within),
    )

pub returns-else-blocks_lie_within : goal.returns-else-blocks_lie_within
returns-else-blocks_lie_within c =
    let one = c.args.one.now in
    let other = c.args.other.now in (
      λ t. absurd (both_ways _ c.if-blocks_lie_within.false t),
      λ part. c.blocks_lie_within.ensures.1 (λ k low within. words_from_part one other (λ k. (c.type_inv.one k).fits) part k low (omega arith)),
    )
