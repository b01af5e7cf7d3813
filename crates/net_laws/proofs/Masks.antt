-- Masks of sets of resources, and how many members a set has.
use Rattle.std.proofs.Common.{◌≡◌, ℕ, zero, suc, ◌+◌, ◌*◌, ◌/◌, ◌%◌, ◌^◌, ◌<◌, ◌≤◌, Bool, true, false, ◌==◌, refl, sym, ap, ◌∙◌, subst, ⊎_elim, arith}
use Rattle.std.specs.Prelude.{IsTrue, if◌then◌else◌}
use Rattle.std.specs.Int.{bit_at}
use native.Mathlib.Nat.{pow-suc}
use Rattle.std.proofs.lemmas.Bool.{cases_lt, cases_Bool, cases_eq, eq-eqb, ne_eqb, cond-true, cond-false, both_ways, false_from_ne_true, eqb-true, eqb-false}
use Rattle.std.proofs.lemmas.Nat.Bits.{bit_at_lowest, bit_at-zero, bit_at-suc, bit_at-lt, bit_at_above, bit_at-pow_same, bit_at-pow_other, same_from_bits_below}
use Rattle.net_laws.specs.Siphons.{only}
use Rattle.net_laws.specs.Candidates.{members}
use Rattle.net_laws.specs.Lines.{total}

-- the mask of a set
pub mask : ℕ → (ℕ → Bool) → ℕ
mask zero C = 0
mask (suc k) C = (if C 0 then 1 else 0) + 2 * mask k (λ r. C (suc r))

lowest : (b : Bool) (k : ℕ) → ((if b then 1 else 0) + 2 * k) % 2 ≡ (if b then 1 else 0)
lowest true k = omega arith
lowest false k = omega arith

halved : (b : Bool) (k : ℕ) → ((if b then 1 else 0) + 2 * k) / 2 ≡ k
halved true k = omega arith
halved false k = omega arith

doubled : (b : Bool) (k n m : ℕ) → k < n → m ≡ 2 * n → (if b then 1 else 0) + 2 * k < m
doubled true k n m lt e = omega arith
doubled false k n m lt e = omega arith

pub mask-lt : (k : ℕ) (C : ℕ → Bool) → mask k C < 2 ^ k
unfolding mask
mask-lt zero C = omega arith
mask-lt (suc k) C = doubled (C 0) (mask k (λ r. C (suc r))) (2 ^ k) (2 ^ suc k) (mask-lt k (λ r. C (suc r))) (grind (arith, pow-suc))

bit_at-mask : (k : ℕ) (C : ℕ → Bool) (r : ℕ) → r < k → bit_at (mask k C) r ≡ (if C r then 1 else 0)
unfolding mask
bit_at-mask zero C r lt = absurd (omega arith)
bit_at-mask (suc k) C zero lt = bit_at_lowest (mask (suc k) C) ∙ lowest (C 0) (mask k (λ r. C (suc r)))
bit_at-mask (suc k) C (suc r) lt =
    bit_at-suc (mask (suc k) C) r
    ∙ ap (λ m. bit_at m r) (halved (C 0) (mask k (λ r. C (suc r))))
    ∙ bit_at-mask k (λ r. C (suc r)) r (omega arith)

one_is : (b : Bool) → ((if b then 1 else 0) == 1) ≡ b
one_is true = refl
one_is false = refl

-- how many members below k
abbrev pub count : ℕ → (ℕ → Bool) → ℕ
count k C = total k C (λ r. 1)

pub count_le : (k : ℕ) (Q C : ℕ → Bool) → ((r : ℕ) → IsTrue (Q r) → IsTrue (C r)) → total k Q (λ r. 1) ≤ total k C (λ r. 1)
count_le zero Q C h = omega arith
count_le (suc k) Q C h =
    ⊎_elim
    (λ on. omega (arith, count_le k Q C h, cond-true {A = ℕ} (Q k) 1 0 on, cond-true {A = ℕ} (C k) 1 0 (h k on)))
    (λ off. omega (arith, count_le k Q C h, cond-false {A = ℕ} (Q k) 1 0 off))
    (cases_Bool (Q k))

-- a part of a set that is no smaller is the set
pub count_same : (k : ℕ) (Q C : ℕ → Bool) → ((r : ℕ) → IsTrue (Q r) → IsTrue (C r)) → total k C (λ r. 1) ≤ total k Q (λ r. 1) → (r : ℕ) → r < k → C r ≡ true → Q r ≡ true
count_same zero Q C h le r lt in_C = absurd (omega arith)
count_same (suc k) Q C h le r lt in_C =
    let before = count_le k Q C h in
    ⊎_elim
    (λ on. let eq = cond-true {A = ℕ} (Q k) 1 0 on in let ec = cond-true {A = ℕ} (C k) 1 0 (h k on) in
    ⊎_elim
    (λ below. count_same k Q C h (omega (arith, eq, ec)) r below in_C)
    (λ up. let same : k ≡ r = omega arith in subst (λ x. Q x ≡ true) same on)
    (cases_lt r k))
    (λ off. let eq = cond-false {A = ℕ} (Q k) 1 0 off in
    ⊎_elim
    (λ on. absurd (omega (arith, eq, cond-true {A = ℕ} (C k) 1 0 on, before)))
    (λ out. let ec = cond-false {A = ℕ} (C k) 1 0 out in
    ⊎_elim
    (λ below. count_same k Q C h (omega (arith, eq, ec)) r below in_C)
    (λ up. let same : r ≡ k = omega arith in absurd (both_ways (C k) out (subst (λ x. C x ≡ true) same in_C)))
    (cases_lt r k))
    (cases_Bool (C k)))
    (cases_Bool (Q k))

-- two masks with the same members are one
pub same_mask : (Q C : ℕ) → Q < 2 ^ 64 → C < 2 ^ 64 → ((r : ℕ) → members Q r ≡ true → members C r ≡ true) → ((r : ℕ) → members C r ≡ true → members Q r ≡ true) → Q ≡ C
same_mask Q C q c there back =
    same_from_bits_below 64 Q C q c (λ r lt.
    ⊎_elim
    (λ on. eqb-true _ _ (back r on) ∙ sym (eqb-true _ _ on))
    (λ off. omega (arith, bit_at-lt Q r, bit_at-lt C r, eqb-false _ _ off, eqb-false _ _ (false_from_ne_true _ (λ on. both_ways _ off (there r on)))))
    (cases_Bool (members C r)))

bit_at-mask_past : (k : ℕ) (C : ℕ → Bool) (r : ℕ) → k ≤ r → bit_at (mask k C) r ≡ 0
unfolding mask
bit_at-mask_past zero C r le = bit_at-zero r
bit_at-mask_past (suc k) C zero le = absurd (omega arith)
bit_at-mask_past (suc k) C (suc r) le =
    bit_at-suc (mask (suc k) C) r
    ∙ ap (λ m. bit_at m r) (halved (C 0) (mask k (λ r. C (suc r))))
    ∙ bit_at-mask_past k (λ r. C (suc r)) r (omega arith)

-- a set below k is that of its mask
pub members-mask : (k : ℕ) (C : ℕ → Bool) → ((r : ℕ) → C r ≡ true → r < k) → members (mask k C) ≡ C
members-mask k C below = λ i r. same r i
  where
    same : (r : ℕ) → members (mask k C) r ≡ C r
    same r =
        ⊎_elim
        (λ lt. ap (λ x. x == 1) (bit_at-mask k C r lt) ∙ one_is (C r))
        (λ le. let out : C r ≡ false = false_from_ne_true (C r) (λ on. absurd (omega (arith, below r on))) in ap (λ x. x == 1) (bit_at-mask_past k C r le) ∙ sym out)
        (cases_lt r k)

-- a mask has members below 64 alone
pub members-below : (mask : ℕ) → mask < 2 ^ 64 → (r : ℕ) → IsTrue (members mask r) → r < 64
members-below mask lt r on =
    ⊎_elim (λ below. below) (λ le. absurd (omega (arith, bit_at_above mask 64 r lt le, eqb-true _ _ on))) (cases_lt r 64)

-- the mask of one resource
pub only-mask : (r : ℕ) → members (2 ^ r) ≡ only r
only-mask r = λ i s. same s i
  where
    same : (s : ℕ) → members (2 ^ r) s ≡ only r s
    same s =
        ⊎_elim
        (λ e. subst (λ x. members (2 ^ r) x ≡ only r x) (sym e) (ap (λ b. b == 1) (bit_at-pow_same r) ∙ sym (eq-eqb r r refl)))
        (λ ne. ap (λ b. b == 1) (bit_at-pow_other r s ne) ∙ sym (ne_eqb s r ne))
        (cases_eq s r)
