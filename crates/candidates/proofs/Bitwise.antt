-- Members of sets that are made bit by bit.
use Rattle.std.proofs.Common.{◌≡◌, ◌≢◌, ℕ, ◌+◌, ◌-◌, ◌*◌, ◌/◌, ◌%◌, ◌^◌, ◌<◌, ◌≤◌, min, ◌↔◌, ◌⊎◌, refl, sym, ap, ◌∙◌, subst, ⊎_elim, arith, w64}
use Rattle.std.specs.Prelude.{◌==◌, IsTrue, IsFalse, bit_and, bit_or}
use Rattle.std.specs.Int.{bit_at, bit_not, trailing_zeros}
use Rattle.std.proofs.lemmas.Bool.{cases_lt, both_ways, or_cases, or_left, or_right, eqb-true, eqb-false, eq-eqb, ne_eqb}
use Rattle.std.proofs.lemmas.Nat.{and_mask, one_shl, or_disjoint, pow_pos, shr_split}
use Rattle.std.proofs.Math.Nat.{mod-eq_of_lt, div-mul-le_self}
use Rattle.std.proofs.lemmas.Nat.Bits.{bit_at_and, bit_at-lt, bit_at-zero, bit_at_not, bit_at_clear_same, bit_at_clear_other, bit_at-trailing_zeros, and_pow, bit_at_ones, bit_at_cat_low, bit_at_cat_high}
use Rattle.place_sets.specs.Sets.{IsPartOf}
use Rattle.net_laws.specs.Candidates.{members}
use Rattle.gadara_net.specs.Sets.{HasMembers}
use Rattle.gadara_net.proofs.Bits.{members-union, members-zero}
use Rattle.candidates.proofs.Numbers.{low_below, member_below, part_le, common_part}

both_one : (x y : ℕ) → x < 2 → y < 2 → min x y ≡ 1 → (x ≡ 1) × (y ≡ 1)
both_one x y p q e = (omega arith, omega arith)

pub members-common : (a b r : ℕ) → IsTrue (members (bit_and a b) r) ↔ (IsTrue (members a r) × IsTrue (members b r))
members-common a b r = (
  (λ on.
      let one = both_one (bit_at a r) (bit_at b r) (bit_at-lt a r) (bit_at-lt b r) (sym (bit_at_and a b r) ∙ eqb-true _ _ on) in
      (eq-eqb _ _ one.0, eq-eqb _ _ one.1)),
  (λ both. eq-eqb _ _ (omega (arith, bit_at_and a b r, eqb-true _ _ both.0, eqb-true _ _ both.1))),
)

members-none : (b r : ℕ) → b < 2 ^ 64 → r < 64 → IsTrue (members (bit_not w64 b) r) ↔ IsFalse (members b r)
members-none b r lt below = (
  (λ on. ne_eqb _ _ (λ one. omega (arith, bit_at_not w64 b r lt below, eqb-true _ _ on, one))),
  (λ off. eq-eqb _ _ (omega (arith, bit_at_not w64 b r lt below, bit_at-lt b r, eqb-false _ _ off))),
)

pub members-difference : (a b r : ℕ) → a < 2 ^ 64 → b < 2 ^ 64 → IsTrue (members (bit_and a (bit_not w64 b)) r) ↔ (IsTrue (members a r) × IsFalse (members b r))
members-difference a b r lt_a lt_b = (
  (λ on.
      let both = (members-common a (bit_not w64 b) r).0 on in
      (both.0, (members-none b r lt_b (member_below a 64 r lt_a both.0)).0 both.1)),
  (λ both. (members-common a (bit_not w64 b) r).1 (both.0, (members-none b r lt_b (member_below a 64 r lt_a both.0)).1 both.1)),
)

pub members-without : (n k r : ℕ) → n < 2 ^ 64 → k < 64 → IsTrue (members (bit_and n (bit_not w64 (1 * 2 ^ k % 2 ^ 64))) r) ↔ (IsTrue (members n r) × (r ≢ k))
members-without n k r lt below = (
  (λ on.
      let both = (members-common n (bit_not w64 (1 * 2 ^ k % 2 ^ 64)) r).0 on in
      (both.0, λ same. omega (arith, bit_at_clear_same w64 n k below, ap (λ i. bit_at (bit_and n (bit_not w64 (1 * 2 ^ k % 2 ^ 64))) i) same, eqb-true _ _ on))),
  (λ both. eq-eqb _ _ (bit_at_clear_other w64 n k below r (member_below n 64 r lt both.0) both.1 ∙ eqb-true _ _ both.0)),
)

pub members-either : (a b r : ℕ) → IsTrue (members (bit_or a b) r) ↔ (IsTrue (members a r) ⊎ IsTrue (members b r))
members-either a b r = (
  (λ on. or_cases _ _ (sym (members-union a b r) ∙ on)),
  (λ either. members-union a b r ∙ ⊎_elim (λ one. or_left (members a r) (members b r) one) (λ other. or_right (members a r) (members b r) other) either),
)

-- a part that lacks a member is less
pub part_less : (m n k : ℕ) → IsPartOf (members m) (members n) → IsTrue (members n k) → (IsTrue (members m k) → ⊥) → m < n
part_less m n k part has lacks =
    ⊎_elim
    (λ lt. lt)
    (λ up. let same : m ≡ n = omega (arith, up, part_le m n part) in absurd (lacks (subst (λ x. IsTrue (members x k)) (sym same) has)))
    (cases_lt m n)

pub without_less : (n k m : ℕ) → ((r : ℕ) → IsTrue (members m r) ↔ (IsTrue (members n r) × (r ≢ k))) → IsTrue (members n k) → m < n
without_less n k m are has = part_less m n k (λ r on. ((are r).0 on).0) has (λ on. ((are k).0 on).1 refl)

pub number_with : (n k : ℕ) → k < 64 → IsFalse (members n k) → bit_or n (1 * 2 ^ k % 2 ^ 64) ≡ n + 2 ^ k
number_with n k below off =
    let none : bit_at n k ≡ 0 = omega (arith, bit_at-lt n k, eqb-false _ _ off) in
    let apart : bit_and n (2 ^ k) ≡ 0 = and_pow n k ∙ ap (λ b. b * 2 ^ k) none ∙ zero_times (2 ^ k) in
    ap (bit_or n) (one_shl k 64 below) ∙ or_disjoint n (2 ^ k) apart
  where
    zero_times : (x : ℕ) → 0 * x ≡ 0
    zero_times x = omega arith

pub some_positive : (n : ℕ) → HasMembers n → 0 < n
some_positive n has =
    ⊎_elim
    (λ some. some)
    (λ none. let is : n ≡ 0 = omega arith in absurd (both_ways _ (ap (λ x. members x has.0) is ∙ ap (λ b. b == 1) (bit_at-zero has.0)) has.1))
    (cases_lt 0 n)

-- the least member by its place
pub lowest_is : (n : ℕ) → HasMembers n → n < 2 ^ 64 → (trailing_zeros w64 n < 64) × IsTrue (members n (trailing_zeros w64 n)) × ((r : ℕ) → r < trailing_zeros w64 n → IsFalse (members n r))
lowest_is n has lt =
    let t = bit_at-trailing_zeros w64 n (some_positive n has) lt in
    (t.0, eq-eqb _ _ t.1, λ r below. ap (λ b. b == 1) (t.2 r below))

-- a set that isn't 0 has a member
pub has_some : (n : ℕ) → 0 < n → n < 2 ^ 64 → HasMembers n
has_some n some lt = let t = bit_at-trailing_zeros w64 n some lt in (trailing_zeros w64 n, eq-eqb _ _ t.1)

-- the members below a place
pub below_place : (n k : ℕ) → k < 64 → bit_and n (1 * 2 ^ k % 2 ^ 64 - 1) ≡ n % 2 ^ k
below_place n k below = ap (λ x. bit_and n (x - 1)) (one_shl k 64 below) ∙ and_mask n k

-- a set whose members are all in another one
pub part_common : (u v : ℕ) → bit_and u v ≡ u ↔ IsPartOf (members u) (members v)
part_common u v = (
  (λ same r on. ((members-common u v r).0 (subst (λ x. IsTrue (members x r)) (sym same) on)).1),
  (λ part. common_part u v part),
)

-- all resources that have bits
pub members-all : (r : ℕ) → IsTrue (members 18446744073709551615 r) ↔ (r < 64)
members-all r = (
  (λ on. member_below 18446744073709551615 64 r (omega arith) on),
  (λ lt. eq-eqb _ _ (bit_at_ones 64 r lt)),
)

-- a set of members is empty where it is 0
pub none_in : (n r : ℕ) → n ≡ 0 → IsFalse (members n r)
none_in n r is = ap (λ x. members x r) is ∙ members-zero r

-- ---- a set without what is below a place

whole_below : (set p : ℕ) → set < 2 ^ 64 → set / 2 ^ p * 2 ^ p % 2 ^ 64 ≡ set / 2 ^ p * 2 ^ p
whole_below set p lt = mod-eq_of_lt (omega (arith, div-mul-le_self set (2 ^ p)))

high_part : (set p r : ℕ) → p ≤ r → bit_at (set / 2 ^ p * 2 ^ p) r ≡ bit_at set r
high_part set p r le =
    let plain : set / 2 ^ p * 2 ^ p + 0 ≡ set / 2 ^ p * 2 ^ p = omega arith in
    ap (λ x. bit_at x r) (sym plain)
    ∙ bit_at_cat_high (set / 2 ^ p) p 0 r (pow_pos p) le
    ∙ sym (bit_at_cat_high (set / 2 ^ p) p (set % 2 ^ p) r (low_below set p) le)
    ∙ ap (λ x. bit_at x r) (shr_split set p)

low_part_none : (set p r : ℕ) → r < p → bit_at (set / 2 ^ p * 2 ^ p) r ≡ 0
low_part_none set p r lt =
    let plain : set / 2 ^ p * 2 ^ p + 0 ≡ set / 2 ^ p * 2 ^ p = omega arith in
    ap (λ x. bit_at x r) (sym plain) ∙ bit_at_cat_low (set / 2 ^ p) p 0 r lt ∙ bit_at-zero r

pub high_members : (set p r : ℕ) → set < 2 ^ 64 → IsTrue (members (set / 2 ^ p * 2 ^ p % 2 ^ 64) r) → IsTrue (members set r)
high_members set p r fits on =
    let here = subst (λ x. IsTrue (members x r)) (whole_below set p fits) on in
    ⊎_elim
    (λ lt. absurd (both_ways _ (ap (λ b. b == 1) (low_part_none set p r lt)) here))
    (λ le. ap (λ b. b == 1) (sym (high_part set p r le)) ∙ here)
    (cases_lt r p)

pub high_lacks : (set p : ℕ) → set < 2 ^ 64 → IsFalse (members set p) → IsFalse (members (set / 2 ^ p * 2 ^ p % 2 ^ 64) p)
high_lacks set p fits off = ap (λ x. members x p) (whole_below set p fits) ∙ ap (λ b. b == 1) (high_part set p p (omega arith)) ∙ off

pub high_raised : (set p : ℕ) → set < 2 ^ 64 → set / 2 ^ p * 2 ^ p % 2 ^ 64 + 2 ^ p ≡ (set / 2 ^ p + 1) * 2 ^ p
high_raised set p fits = ap (λ x. x + 2 ^ p) (whole_below set p fits) ∙ sum (set / 2 ^ p) (2 ^ p)
  where
    sum : (a b : ℕ) → a * b + b ≡ (a + 1) * b
    sum a b = omega arith
