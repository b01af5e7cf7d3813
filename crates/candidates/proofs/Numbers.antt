-- Sets as numbers: their members below a place and from it on, parts of sets, and how many members they have.
use Rattle.std.proofs.Common.{◌≡◌, ℕ, zero, suc, ◌+◌, ◌/◌, ◌%◌, ◌^◌, ◌<◌, ◌≤◌, min, false, sym, ap, ◌∙◌, subst, ⊎_elim, arith, pow-suc}
use Rattle.std.specs.Prelude.{◌==◌, IsTrue, bit_and, bit_or}
use Rattle.std.specs.Int.{bit_at}
use Rattle.std.specs.Int.RustNames.{count_ones}
use Rattle.std.proofs.lemmas.Bool.{cases_lt, cases_eq, cases_Bool, both_ways, eqb-true, eqb-false, eq-eqb}
use Rattle.std.proofs.lemmas.Nat.{shr_split, mod_below, pow_pos, ones_cat, zero_from_ones, ones_le_self, and_le_r, or_shr}
use Rattle.std.proofs.lemmas.Nat.Bits.{bit_at_lowest, bit_at-suc, bit_at-zero, bit_at_and, bit_at-lt, bit_at_above, bit_at_cat_low, same_from_bits}
use Rattle.std.proofs.Math.Nat.{div-eq_of_lt}
use Rattle.std.proofs.Math.Pow.{pow_mono}
use Rattle.std.specs.Int.Bits.{or_zero_r}
use Rattle.place_sets.specs.Sets.{IsPartOf}
use Rattle.net_laws.specs.Candidates.{members}

pub low_below : (t q : ℕ) → t % 2 ^ q < 2 ^ q
low_below t q = mod_below t (2 ^ q) (pow_pos q)

-- ---- members below a place

pub members_low : (t q i : ℕ) → i < q → members (t % 2 ^ q) i ≡ members t i
members_low t q i lt = ap (λ b. b == 1) (sym (bit_at_cat_low (t / 2 ^ q) q (t % 2 ^ q) i lt) ∙ ap (λ x. bit_at x i) (shr_split t q))

pub members_past : (t q i : ℕ) → t < 2 ^ q → q ≤ i → members t i ≡ false
members_past t q i lt le = ap (λ b. b == 1) (bit_at_above t q i lt le)

-- what a number below 2 ^ q has is below q
pub member_below : (t q i : ℕ) → t < 2 ^ q → IsTrue (members t i) → i < q
member_below t q i lt on = ⊎_elim (λ below. below) (λ le. absurd (both_ways _ (members_past t q i lt le) on)) (cases_lt i q)

pub low_part : (t q : ℕ) → IsPartOf (members (t % 2 ^ q)) (members t)
low_part t q i on = sym (members_low t q i (member_below (t % 2 ^ q) q i (low_below t q) on)) ∙ on

-- below the place a part of the room lies in a set that has there all that the room has
pub part_low : (t room set q : ℕ) → IsPartOf (members t) (members room) → ((i : ℕ) → i < q → IsTrue (members room i) → IsTrue (members set i))
    → IsPartOf (members (t % 2 ^ q)) (members (set % 2 ^ q))
part_low t room set q part full i on =
    let lt = member_below (t % 2 ^ q) q i (low_below t q) on in
    members_low set q i lt ∙ full i lt (part i (low_part t q i on))

-- ---- parts

least_bit : (a b : ℕ) → a < 2 → b < 2 → (a ≡ 1 → b ≡ 1) → min a b ≡ a
least_bit a b low high h = ⊎_elim (λ one. omega (arith, h one)) (λ off. omega (arith, off)) (cases_eq a 1)

-- a part is what it has in common with the whole
pub common_part : (u v : ℕ) → IsPartOf (members u) (members v) → bit_and u v ≡ u
common_part u v part =
    same_from_bits (bit_and u v) u (λ i.
    bit_at_and u v i ∙ least_bit (bit_at u i) (bit_at v i) (bit_at-lt u i) (bit_at-lt v i) (λ one. eqb-true _ _ (part i (eq-eqb _ _ one))))

-- a part has no greater mask
pub part_le : (u v : ℕ) → IsPartOf (members u) (members v) → u ≤ v
part_le u v part = subst (λ x. x ≤ v) (common_part u v part) (and_le_r u v)

pub part_same : (u v : ℕ) → IsPartOf (members u) (members v) → IsPartOf (members v) (members u) → u ≡ v
part_same u v there back = omega (arith, part_le u v there, part_le v u back)

pub part_trans : (u v w : ℕ) → IsPartOf (members u) (members v) → IsPartOf (members v) (members w) → IsPartOf (members u) (members w)
part_trans u v w p q i on = q i (p i on)

part_half : (u v : ℕ) → IsPartOf (members u) (members v) → IsPartOf (members (u / 2)) (members (v / 2))
part_half u v part i on = ap (λ b. b == 1) (sym (bit_at-suc v i)) ∙ part (suc i) (ap (λ b. b == 1) (bit_at-suc u i) ∙ on)

part_first : (u v : ℕ) → IsPartOf (members u) (members v) → u % 2 ≤ v % 2
part_first u v part =
    ⊎_elim
    (λ on. omega (arith, bit_at_lowest u, bit_at_lowest v, eqb-true _ _ on, eqb-true _ _ (part 0 on)))
    (λ off. omega (arith, bit_at_lowest u, bit_at-lt u 0, eqb-false _ _ off))
    (cases_Bool (members u 0))

-- ---- how many members

pub ones_split : (t q : ℕ) → count_ones t ≡ count_ones (t / 2 ^ q) + count_ones (t % 2 ^ q)
ones_split t q = subst (λ (x : ℕ). count_ones x ≡ count_ones (t / 2 ^ q) + count_ones (t % 2 ^ q)) (shr_split t q) (ones_cat q (t / 2 ^ q) (t % 2 ^ q) (low_below t q))

pub ones_bit : (b : ℕ) → b < 2 → count_ones b ≡ b
ones_bit b lt =
    ⊎_elim
    (λ none. omega (arith, none, zero_from_ones b none))
    (λ some. omega (arith, some, ones_le_self b))
    (cases_eq (count_ones b) 0)

pub ones_half : (n : ℕ) → count_ones n ≡ count_ones (n / 2) + n % 2
ones_half n = let low = ones_bit (n % 2) (omega arith) in omega (arith, ones_split n 1, low)

-- an even number and one more
pub ones_next : (n : ℕ) → n % 2 ≡ 0 → count_ones (n + 1) ≡ count_ones n + 1
ones_next n even =
    let half : (n + 1) / 2 ≡ n / 2 = omega (arith, even) in
    let same = ap count_ones half in
    omega (arith, ones_half (n + 1), ones_half n, same, even)

-- a part has no more members
pub part_ones : (k u v : ℕ) → u < 2 ^ k → v < 2 ^ k → IsPartOf (members u) (members v) → count_ones u ≤ count_ones v
part_ones zero u v lt_u lt_v part = omega (arith, ones_le_self u)
part_ones (suc k) u v lt_u lt_v part =
    omega (arith, ones_half u, ones_half v, part_first u v part, part_ones k (u / 2) (v / 2) (omega (arith, pow-suc 2 k)) (omega (arith, pow-suc 2 k)) (part_half u v part))

-- a part with no fewer members is the whole
pub part_whole : (k u v : ℕ) → u < 2 ^ k → v < 2 ^ k → IsPartOf (members u) (members v) → count_ones v ≤ count_ones u → u ≡ v
part_whole zero u v lt_u lt_v part le = omega arith
part_whole (suc k) u v lt_u lt_v part le =
    let half_u : u / 2 < 2 ^ k = omega (arith, pow-suc 2 k) in
    let half_v : v / 2 < 2 ^ k = omega (arith, pow-suc 2 k) in
    let halves = part_half u v part in
    let fewer = part_ones k (u / 2) (v / 2) half_u half_v halves in
    let first = part_first u v part in
    let same = part_whole k (u / 2) (v / 2) half_u half_v halves (omega (arith, ones_half u, ones_half v)) in
    omega (arith, ones_half u, ones_half v)

below_power : (n : ℕ) → n < 2 ^ n
below_power zero = omega arith
below_power (suc n) = omega (arith, below_power n, pow-suc 2 n)

pub part_count : (u v : ℕ) → IsPartOf (members u) (members v) → count_ones u ≤ count_ones v
part_count u v part = part_ones v u v (omega (arith, below_power v, part_le u v part)) (below_power v) part

-- a set with a member isn't empty
pub some_ones : (t i : ℕ) → IsTrue (members t i) → 0 < count_ones t
some_ones t i on =
    ⊎_elim
    (λ none. absurd (both_ways _ (ap (λ x. members x i) (zero_from_ones t none) ∙ ap (λ b. b == 1) (bit_at-zero i)) on))
    (λ some. omega (arith, some))
    (cases_eq (count_ones t) 0)

-- ---- a number with all that a room has below a place

small_past : (room low place : ℕ) → low ≤ place → room % 2 ^ low / 2 ^ place ≡ 0
small_past room low place le = div-eq_of_lt (omega (arith, low_below room low, pow_mono le))

pub or_low : (set room low place : ℕ) → low ≤ place → bit_or set (room % 2 ^ low) / 2 ^ place ≡ set / 2 ^ place
or_low set room low place le = or_shr set (room % 2 ^ low) place ∙ ap (λ x. bit_or (set / 2 ^ place) x) (small_past room low place le) ∙ or_zero_r (set / 2 ^ place)
