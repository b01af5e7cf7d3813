-- Members of masks.
use Rattle.std.proofs.Common.{◌≡◌, ℕ, zero, suc, ◌*◌, ◌%◌, ◌^◌, ◌<◌, Bool, true, false, ◌||◌, ◌&&◌, max, min, refl, sym, ap, ◌∙◌, subst, ⊎_elim, arith, w64}
use Rattle.std.specs.Prelude.{◌==◌, bit_or, bit_and, IsTrue}
use Rattle.std.specs.Int.{bit_at}
use Rattle.std.proofs.lemmas.Bool.{cases_eq, or_right, eq-eqb, ne_eqb}
use Rattle.std.proofs.lemmas.Nat.Bits.{bit_at_or, bit_at_and, bit_at-lt, bit_at_set_same, bit_at_set_other, bit_at-zero, bit_at-trailing_zeros}
use Rattle.net_laws.specs.Candidates.{members}

pub or_none : (x y : Bool) → y ≡ false → (x || y) ≡ x
or_none true y off = refl
or_none false y off = off

or_max : (x y : ℕ) → x < 2 → y < 2 → (max x y == 1) ≡ ((x == 1) || (y == 1))
or_max zero zero a b = refl
or_max zero (suc zero) a b = refl
or_max zero (suc (suc y)) a b = absurd (omega (arith, b))
or_max (suc zero) zero a b = refl
or_max (suc zero) (suc zero) a b = refl
or_max (suc zero) (suc (suc y)) a b = absurd (omega (arith, b))
or_max (suc (suc x)) y a b = absurd (omega (arith, a))

pub members-union : (one other r : ℕ) → members (bit_or one other) r ≡ (members one r || members other r)
members-union one other r = ap (λ x. x == 1) (bit_at_or one other r) ∙ or_max (bit_at one r) (bit_at other r) (bit_at-lt one r) (bit_at-lt other r)

pub members-set : (mask k r : ℕ) → k < 64 → members (bit_or mask (1 * 2 ^ k % 2 ^ 64)) r ≡ (members mask r || k == r)
members-set mask k r lt = ⊎_elim
    (λ same. subst (λ q. members (bit_or mask (1 * 2 ^ k % 2 ^ 64)) q ≡ (members mask q || k == q)) (sym same)
    (ap (λ x. x == 1) (bit_at_set_same w64 mask k lt) ∙ sym (or_right (members mask k) (k == k) (eq-eqb k k refl))))
    (λ differs. ap (λ x. x == 1) (bit_at_set_other w64 mask k lt r differs) ∙ sym (or_none (members mask r) (k == r) (ne_eqb k r (λ e. differs (sym e)))))
    (cases_eq r k)

pub members-zero : (r : ℕ) → members 0 r ≡ false
members-zero r = ap (λ x. x == 1) (bit_at-zero r)

-- a mask that isn't 0 has a member
pub some_member : (mask : ℕ) → 0 < mask → mask < 2 ^ 64 → (r : ℕ) × IsTrue (members mask r)
some_member mask some fits = let t = bit_at-trailing_zeros w64 mask some fits in (_, eq-eqb _ 1 t.1)

and_min : (x y : ℕ) → x < 2 → y < 2 → (min x y == 1) ≡ ((x == 1) && (y == 1))
and_min zero zero a b = refl
and_min zero (suc zero) a b = refl
and_min zero (suc (suc y)) a b = absurd (omega (arith, b))
and_min (suc zero) zero a b = refl
and_min (suc zero) (suc zero) a b = refl
and_min (suc zero) (suc (suc y)) a b = absurd (omega (arith, b))
and_min (suc (suc x)) y a b = absurd (omega (arith, a))

pub members-common : (one other r : ℕ) → members (bit_and one other) r ≡ (members one r && members other r)
members-common one other r = ap (λ x. x == 1) (bit_at_and one other r) ∙ and_min (bit_at one r) (bit_at other r) (bit_at-lt one r) (bit_at-lt other r)
