use Rattle.std.proofs.Common.{◌≡◌, ℕ, ◌<◌, ◌/◌, ◌%◌, length, arith, sym, ◌∙◌, subst, slice_index, slice_set, List}
use Rattle.place_sets.specs.Rows.{is_set}
use Rattle.place_sets.specs.Sets.{HasGained}
use Rattle.std.proofs.lemmas.Grind.{get_or_default_zero}
use Rattle.std.proofs.lemmas.Bool.{ne_eqb, or_from}
use Rattle.place_sets.proofs.BitLaws.{has_gained, with_bit}
use Rattle.place_sets.proofs.row.BitRowPlaceSet.insert.Goals as goal

-- the row with the place's bit set
abbrev new_words : List ℕ → ℕ → ℕ → List ℕ
new_words words place word = slice_set words (place / 64) (with_bit word (place % 64))

gained : (words : List ℕ) (place word : ℕ) → place / 64 < length words → word ≡ slice_index words (place / 64)
    → HasGained (is_set words) (is_set (new_words words place word)) place
gained words place word within is =
    subst (λ (w : ℕ). HasGained (is_set words) (is_set (new_words words place w)) place) (sym is) (has_gained words place within)

pub invariant_of-self-clause-within : goal.invariant_of-self-clause-within
invariant_of-self-clause-within c place above =
    let set = c.args.self.now in
    let within : c.args.place / 64 < length set.words.items = omega (arith, set.long, c.requires.below) in
    let word = c.index_mut.ensures.value ∙ get_or_default_zero set.words.items (c.args.place / 64) c.index_mut.result.now within in
    gained set.words.items c.args.place c.index_mut.result.now within word place
    ∙ or_from _ _ (set.within place above) (ne_eqb place c.args.place (λ e. absurd (omega (arith, c.requires.below))))

pub returns-clause-gained : goal.returns-clause-gained
returns-clause-gained c =
    let set = c.args.self.now in
    let within : c.args.place / 64 < length set.words.items = omega (arith, set.long, c.requires.below) in
    let word = c.index_mut.ensures.value ∙ get_or_default_zero set.words.items (c.args.place / 64) c.index_mut.result.now within in
    gained set.words.items c.args.place c.index_mut.result.now within word
