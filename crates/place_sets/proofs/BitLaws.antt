-- Laws of rows of words.
use Rattle.std.proofs.Common.{not, map, eqb, nat_eq, ◌↔◌, eqb-true, eq-eqb, ◌≡◌, ℕ, zero, suc, ◌+◌, ◌-◌, ◌*◌, ◌/◌, ◌%◌, ◌^◌, ◌<◌, ◌≤◌, min, Bool, true, false, ◌||◌, cond, List, [], ◌∷◌, length, refl, sym, ap, subst, ◌∙◌, arith, inl, inr, count_by, sum_by, bit_and, bit_or, slice_index, slice_set, ◌==◌, IsTrue, w64, pow-suc}
use Rattle.std.specs.Int.{bit_at}
use Rattle.std.specs.Int.RustNames.{count_ones}
use Rattle.std.specs.List.{range_with_len}
use Rattle.std.proofs.lemmas.Nat.{ones_cat, zero_from_ones, ones_le_self}
use Rattle.std.proofs.lemmas.Nat.Bits.{bit_at_lowest, bit_at-suc, bit_at-zero, bit_at_and, bit_at-lt, bit_at_above, bit_at_set_same, bit_at_set_other, same_from_bits, same_from_bits_below}
use Rattle.std.proofs.lemmas.List.{get_or_past, get_or-set_same, get_or-set_other, ext_get_or}
use Rattle.std.proofs.lemmas.List.Sums.{sum_by-cons}
use Rattle.std.proofs.lemmas.Bool.{cases_lt, cases_eq, eqb-false, ne_eqb, or_right}
use Rattle.std.proofs.Math.Bool.{or-false}
use Rattle.std.proofs.lemmas.Simd.{tops_compared, mask_l-mod, length-zip2, length-chunk, get_or-chunk, get_or-zip2}
use Rattle.std.specs.Simd.Lanes.{mask_l, top, zip2, chunk}
use Rattle.std.proofs.lemmas.Bool.Decides.{nat_tests}
use Rattle.place_sets.specs.Rows.{is_set, LieWithin, AreSameWords}
use Rattle.place_sets.specs.Sets.{IsPartOf, AreSame, HasGained}
use Rattle.place_sets.proofs.Counts.{one_if, count_first, count_alike, count_parts}

-- ---- one word

ones_of_bit : (b : ℕ) → b < 2 → count_ones b ≡ b
ones_of_bit b h = elim (cases_eq (count_ones b) 0) [
  | inl none ↦ omega (arith, none, zero_from_ones b none)
  | inr some ↦ omega (arith, some, ones_le_self b)
]

bit_is_counted : (b : ℕ) → b < 2 → one_if (b == 1) ≡ b
bit_is_counted b h = grind (arith, nat_tests)

-- the bits of a word are counted one by one
pub ones_are_counted : (n w : ℕ) → w < 2 ^ n → count_ones w ≡ count_by (λ i. bit_at w i == 1) (range_with_len 0 n)
ones_are_counted zero w h = omega (arith, ones_le_self w)
ones_are_counted (suc n) w h =
    let half : w / 2 < 2 ^ n = omega (arith, pow-suc 2 n) in
    let split : w / 2 * 2 ^ 1 + w % 2 ≡ w = omega arith in
    let counts = subst (λ (x : ℕ). count_ones x ≡ count_ones (w / 2) + count_ones (w % 2)) split (ones_cat 1 (w / 2) (w % 2) (omega arith)) in
    let low = ones_of_bit (w % 2) (omega arith) in
    let lowest : one_if (bit_at w 0 == 1) ≡ w % 2 = rw (bit_at_lowest w) (bit_is_counted (w % 2) (omega arith)) in
    let high = ones_are_counted n (w / 2) half in
    let moved = count_alike (λ i. bit_at w i == 1) (λ i. bit_at (w / 2) i == 1) 1 0 n (λ i j e l u. let at : i ≡ suc j = omega arith in rw (at, bit_at-suc w j) refl) in
    omega (arith, counts, low, lowest, high, moved, count_first (λ i. bit_at w i == 1) 0 (range_with_len 1 n))

-- ---- a place in a row

is_set_first : (w : ℕ) (ws : List ℕ) (place : ℕ) → place < 64 → is_set (w ∷ ws) place ≡ (bit_at w place == 1)
is_set_first w ws place h =
    let e : place / 64 ≡ 0 = omega arith in
    let f : place % 64 ≡ place = omega arith in
    rw (e, f) refl

is_set_later : (w : ℕ) (ws : List ℕ) (place later : ℕ) → later ≡ place + 64 → is_set (w ∷ ws) later ≡ is_set ws place
is_set_later w ws place later at =
    let e : later / 64 ≡ suc (place / 64) = omega arith in
    let f : later % 64 ≡ place % 64 = omega arith in
    rw (e, f) refl

-- the bits of a row are counted word by word
pub row_is_counted : (words : List ℕ) → ((k : ℕ) → slice_index words k < 2 ^ 64) → sum_by count_ones words ≡ count_by (is_set words) (range_with_len 0 (64 * length words))
row_is_counted [] fits = refl
row_is_counted (w ∷ ws) fits =
    let rest = row_is_counted ws (λ k. fits (suc k)) in
    let first = ones_are_counted 64 w (fits 0) in
    let parts = count_parts (is_set (w ∷ ws)) 0 64 64 (64 * length ws) (64 * suc (length ws)) (omega arith) (omega arith) in
    let head = count_alike (is_set (w ∷ ws)) (λ i. bit_at w i == 1) 0 0 64 (λ i j e low high. let same : i ≡ j = omega arith in rw same (is_set_first w ws j (omega arith))) in
    let tail = count_alike (is_set (w ∷ ws)) (is_set ws) 64 0 (64 * length ws) (λ i j e low high. is_set_later w ws j i (omega arith)) in
    omega (arith, sum_by-cons count_ones w ws, rest, first, parts, head, tail)

-- ---- two blocks

abbrev pub differs : ℕ → ℕ → Bool
differs a b = not (eqb a b)

lane_is_marked : (a b : ℕ) → (one_if (differs a b) ≡ 0) ↔ (a ≡ b)
lane_is_marked a b = go (eqb a b) refl
  where
    go : (t : Bool) → eqb a b ≡ t → (one_if (not t) ≡ 0) ↔ (a ≡ b)
    go true e = (λ _. eqb-true a b e, λ _. refl)
    go false e = (λ q. absurd (omega arith), λ z. absurd (eqb-false a b e z))

none_is_marked : (xs ys : List ℕ) → length xs ≡ length ys → (mask_l (zip2 differs xs ys) ≡ 0) ↔ AreSameWords xs ys 0 (length xs)
none_is_marked [] [] long = (λ _ k _ within. absurd (omega arith), λ _. refl)
none_is_marked [] (y ∷ ys) long = absurd (omega arith)
none_is_marked (x ∷ xs) [] long = absurd (omega arith)
none_is_marked (x ∷ xs) (y ∷ ys) long =
    let rest = none_is_marked xs ys (omega arith) in
    let first = lane_is_marked x y in (
      λ none. elim [ zero ↦ λ _ _. first.0 (omega arith) | suc k ↦ λ _ within. rest.0 (omega arith) k (omega arith) (omega arith) ],
      λ same. omega (arith, first.1 (same 0 (omega arith) (omega arith)), rest.1 (λ k _ within. same (suc k) (omega arith) (omega arith))),
    )

-- what a comparison of two blocks says of their words
pub same_from_mask : (xs ys : List ℕ) → length xs ≡ 8 → length ys ≡ 8
    → IsTrue (nat_eq (mask_l (map (top 63) (zip2 (λ a b. cond (differs a b) (2 ^ 64 - 1) 0) xs ys)) % 2 ^ 64) 0) ↔ AreSameWords xs ys 0 8
same_from_mask xs ys one other =
    let long : length xs ≡ length ys = one ∙ sym other in
    let marks = tops_compared w64 differs xs ys in
    let mask = ap (λ ms. mask_l ms % 2 ^ 64) marks ∙ mask_l-mod (zip2 differs xs ys) 64 (omega (arith, length-zip2 differs xs ys long)) in
    let each = none_is_marked xs ys long in (
      λ none k low within. each.0 (sym mask ∙ eqb-true _ _ none) k low (omega arith),
      λ same. eq-eqb _ _ (mask ∙ each.1 (λ k low within. same k low (omega arith))),
    )

-- the words of a block are those of the row from a place on
in_block : (row : List ℕ) (at lane k : ℕ) → k ≡ at + lane → lane < 8 → slice_index (chunk at 8 row) lane ≡ slice_index row k
in_block row at lane k is within = rw is (get_or-chunk at 8 row lane 0 within)

pub blocks_are_same : (one other : List ℕ) (at : ℕ) → AreSameWords (chunk at 8 one) (chunk at 8 other) 0 8 ↔ AreSameWords one other at (at + 8)
blocks_are_same one other at = (
  λ same k low within.
      let lane : k ≡ at + (k - at) = omega arith in
      sym (in_block one at (k - at) k lane (omega arith)) ∙ same (k - at) (omega arith) (omega arith) ∙ in_block other at (k - at) k lane (omega arith),
  λ same lane low within.
      in_block one at lane (at + lane) refl within ∙ same (at + lane) (omega arith) (omega arith) ∙ sym (in_block other at lane (at + lane) refl within),
)

both_in_block : (one other : List ℕ) (at lane k : ℕ) → at + 8 ≤ length one → at + 8 ≤ length other → k ≡ at + lane → lane < 8
    → slice_index (zip2 bit_and (chunk at 8 one) (chunk at 8 other)) lane ≡ bit_and (slice_index one k) (slice_index other k)
both_in_block one other at lane k room place is within =
    get_or-zip2 bit_and (chunk at 8 one) (chunk at 8 other) lane 0 0 0 (omega (arith, length-chunk at 8 one room)) (omega (arith, length-chunk at 8 other place))
    ∙ ap (λ (w : ℕ). bit_and w (slice_index (chunk at 8 other) lane)) (in_block one at lane k is within)
    ∙ ap (λ (w : ℕ). bit_and (slice_index one k) w) (in_block other at lane k is within)

pub block_lies_within : (one other : List ℕ) (at : ℕ) → at + 8 ≤ length one → at + 8 ≤ length other
    → AreSameWords (zip2 bit_and (chunk at 8 one) (chunk at 8 other)) (chunk at 8 one) 0 8 ↔ LieWithin one other at (at + 8)
block_lies_within one other at room place = (
  λ same k low within.
      let lane : k ≡ at + (k - at) = omega arith in
      sym (both_in_block one other at (k - at) k room place lane (omega arith)) ∙ same (k - at) (omega arith) (omega arith) ∙ in_block one at (k - at) k lane (omega arith),
  λ lie lane low within.
      both_in_block one other at lane (at + lane) room place refl within ∙ lie (at + lane) (omega arith) (omega arith) ∙ sym (in_block one at lane (at + lane) refl within),
)

-- ---- two rows

bit_in_both : (a b i : ℕ) → bit_and a b ≡ a → bit_at a i ≡ 1 → bit_at b i ≡ 1
bit_in_both a b i lie set =
    let both : min (bit_at a i) (bit_at b i) ≡ bit_at a i = sym (bit_at_and a b i) ∙ ap (λ w. bit_at w i) lie in
    omega (arith, bit_at-lt b i)

-- a row with words within those of another has only places of the other
pub part_from_words : (one other : List ℕ) → LieWithin one other 0 (length one) → IsPartOf (is_set one) (is_set other)
part_from_words one other lie place set =
    let bit = eqb-true (bit_at (slice_index one (place / 64)) (place % 64)) 1 set in
    eq-eqb _ 1 (elim (cases_lt (place / 64) (length one)) [
      | inl within ↦ bit_in_both (slice_index one (place / 64)) (slice_index other (place / 64)) (place % 64) (lie (place / 64) (omega arith) within) bit
      | inr past ↦ let past_end : slice_index one (place / 64) ≡ 0 = get_or_past one (place / 64) 0 past in
          absurd (omega (arith, bit, ap (λ w. bit_at w (place % 64)) past_end, bit_at-zero (place % 64)))
    ])

place_of_bit : (words : List ℕ) (k i : ℕ) → i < 64 → is_set words (64 * k + i) ≡ (bit_at (slice_index words k) i == 1)
place_of_bit words k i within =
    let word : (64 * k + i) / 64 ≡ k = omega arith in
    let bit : (64 * k + i) % 64 ≡ i = omega arith in
    rw (word, bit) refl

pub words_from_part : (one other : List ℕ) → ((k : ℕ) → slice_index one k < 2 ^ 64) → IsPartOf (is_set one) (is_set other) → LieWithin one other 0 (length one)
words_from_part one other fits part k low within =
    let a = slice_index one k in
    let b = slice_index other k in
    same_from_bits (bit_and a b) a (λ i.
    let both = bit_at_and a b i in
    elim (cases_lt i 64) [
      | inr above ↦ omega (arith, both, bit_at_above a 64 i (fits k) above)
      | inl below ↦ elim (cases_eq (bit_at a i) 1) [
        | inl set ↦
            let there = part (64 * k + i) (place_of_bit one k i below ∙ eq-eqb _ 1 set) in
            let too = eqb-true (bit_at b i) 1 (sym (place_of_bit other k i below) ∙ there) in
            omega (arith, both, set, too)
        | inr not_set ↦ let clear : bit_at a i ≡ 0 = omega (arith, bit_at-lt a i) in omega (arith, both, clear)
      ]
    ])

pub same_from_words : (one other : List ℕ) → length one ≡ length other → AreSameWords one other 0 (length one) → AreSame (is_set one) (is_set other)
same_from_words one other long same place = rw (ext_get_or 0 one other long (λ k within. same k (omega arith) within)) refl

same_bits : (a b : ℕ) → a < 2 → b < 2 → (a == 1) ≡ (b == 1) → a ≡ b
same_bits a b one other alike = grind (arith, nat_tests)

pub words_from_same : (one other : List ℕ) → ((k : ℕ) → slice_index one k < 2 ^ 64) → ((k : ℕ) → slice_index other k < 2 ^ 64) → AreSame (is_set one) (is_set other) → AreSameWords one other 0 (length one)
words_from_same one other fits fit same k low within =
    let a = slice_index one k in
    let b = slice_index other k in
    same_from_bits_below 64 a b (fits k) (fit k) (λ i below.
    let alike = sym (place_of_bit one k i below) ∙ same (64 * k + i) ∙ place_of_bit other k i below in
    same_bits (bit_at a i) (bit_at b i) (bit_at-lt a i) (bit_at-lt b i) alike)

-- ---- a bit more

abbrev pub with_bit : ℕ → ℕ → ℕ
with_bit word bit = bit_or word (1 * 2 ^ bit % 2 ^ 64)

-- the row has one place more, or had it
pub has_gained : (words : List ℕ) (place : ℕ) → place / 64 < length words
    → HasGained (is_set words) (is_set (slice_set words (place / 64) (with_bit (slice_index words (place / 64)) (place % 64)))) place
has_gained words place within other =
    let at = place / 64 in
    let word = slice_index words at in
    let new = slice_set words at (with_bit word (place % 64)) in
    elim (cases_eq (other / 64) at) [
      | inr elsewhere ↦
          let same : slice_index new (other / 64) ≡ slice_index words (other / 64) = get_or-set_other words at (other / 64) (with_bit word (place % 64)) 0 elsewhere in
          let differs : (other == place) ≡ false = ne_eqb other place (λ e. elsewhere (ap (λ (x : ℕ). x / 64) e)) in
          ap (λ (w : ℕ). bit_at w (other % 64) == 1) same ∙ sym (ap (λ b. is_set words other || b) differs ∙ or-false (is_set words other))
      | inl here ↦
          let there : slice_index new (other / 64) ≡ with_bit word (place % 64) = ap (λ k. slice_index new k) here ∙ get_or-set_same words at (with_bit word (place % 64)) 0 within in
          let new_bit = ap (λ (w : ℕ). bit_at w (other % 64) == 1) there in
          elim (cases_eq (other % 64) (place % 64)) [
            | inl bit ↦
                let one : bit_at (with_bit word (place % 64)) (other % 64) ≡ 1 = ap (λ k. bit_at (with_bit word (place % 64)) k) bit ∙ bit_at_set_same w64 word (place % 64) (omega arith) in
                let is : other ≡ place = omega arith in
                new_bit ∙ eq-eqb _ 1 one ∙ sym (or_right (is_set words other) (other == place) (eq-eqb other place is))
            | inr bit ↦
                let old = bit_at_set_other w64 word (place % 64) (omega arith) (other % 64) bit in
                let differs : (other == place) ≡ false = ne_eqb other place (λ e. bit (ap (λ (x : ℕ). x % 64) e)) in
                let old_word : slice_index words (other / 64) ≡ word = ap (λ k. slice_index words k) here in
                new_bit ∙ ap (λ (b : ℕ). b == 1) old ∙ sym (ap (λ (w : ℕ). bit_at w (other % 64) == 1) old_word)
                ∙ sym (ap (λ b. is_set words other || b) differs ∙ or-false (is_set words other))
          ]
    ]
