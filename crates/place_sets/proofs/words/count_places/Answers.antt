use Rattle.std.proofs.Common.{◌≡◌, ℕ, ◌≤◌, ◌*◌, length, false, arith, w64, Fits, ap, ◌∙◌, slice_index, sum_by, count_ones, take_all, List}
use Rattle.place_sets.specs.Rows.{is_set}
use Rattle.place_sets.specs.Sets.{count_below}
use Rattle.std.proofs.lemmas.List.Sums.{sum_by_more_le, sum_by_more, count_by-le-length}
use Rattle.std.proofs.lemmas.List.FromFn.{length-range_with_len}
use Rattle.std.specs.List.{range_with_len}
use Rattle.place_sets.proofs.BitLaws.{row_is_counted}
use Rattle.place_sets.proofs.Counts.{count_up_to}
use Rattle.place_sets.proofs.words.count_places.Goals as goal

-- all bits of the row are its places below the size
all_counted : (words : List ℕ) (size : ℕ) → size ≤ 64 * length words → ((place : ℕ) → size ≤ place → is_set words place ≡ false) → ((k : ℕ) → Fits w64 (slice_index words k))
    → (sum_by count_ones words ≡ count_below (is_set words) size) × (count_below (is_set words) size ≤ size)
all_counted words size long within fits = (
  row_is_counted words (λ k. (fits k).fits) ∙ count_up_to (is_set words) size (64 * length words) long within,
  omega (arith, count_by-le-length (is_set words) (range_with_len 0 size), length-range_with_len 0 size),
)

pub overflow_add-count : goal.overflow_add-count
overflow_add-count c =
    let words = c.args.words.now in
    let all = all_counted words c.args.size c.requires.long c.requires.within c.type_inv.words in
    let more = sum_by_more_le count_ones words c.loop-word.word-index 0 c.loop-word-test.true in
    record { fits = omega (arith, c.loop-word.invariant, c.ranges.size.fits) }

pub loop-word-preserved : goal.loop-word-preserved
loop-word-preserved c =
    omega (arith, c.loop-word.invariant, sum_by_more count_ones c.args.words.now c.loop-word.word-index 0 c.loop-word-test.true)

pub returns : goal.returns
returns c =
    let words = c.args.words.now in
    c.loop-word.invariant
    ∙ ap (λ ws. sum_by count_ones ws) (take_all c.loop-word.word-index words c.loop-word-test.false)
    ∙ (all_counted words c.args.size c.requires.long c.requires.within c.type_inv.words).0
