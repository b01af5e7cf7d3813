-- The order of sets: of two different ones the one stands before the other.
use Rattle.std.proofs.Common.{◌≡◌, ℕ, ◌-◌, ◌*◌, ◌<◌, ◌≤◌, ◌^◌, min, ◌⊎◌, inl, inr, ⊎_elim, arith}
use Rattle.std.specs.Int.RustNames.{count_ones}
use Rattle.std.proofs.lemmas.Bool.{cases_order}
use Rattle.std.proofs.lemmas.Nat.{ones-le}
use Rattle.candidates.specs.Order.{IsBefore}

pub before_not : (a : ℕ) → IsBefore a a → ⊥
before_not a b = ⊎_elim (λ fewer. omega (arith, fewer)) (λ less. omega (arith, less.1)) b

pub before_trans : (a b c : ℕ) → IsBefore a b → IsBefore b c → IsBefore a c
before_trans a b c p q =
    ⊎_elim
    (λ fewer. ⊎_elim (λ more. inl (omega (arith, fewer, more))) (λ less. inl (omega (arith, fewer, less.0))) q)
    (λ less. ⊎_elim (λ more. inl (omega (arith, less.0, more))) (λ next. inr (omega (arith, less.0, next.0), omega (arith, less.1, next.1))) q)
    p

pub before_cases : (a b : ℕ) → IsBefore a b ⊎ ((a ≡ b) ⊎ IsBefore b a)
before_cases a b =
    ⊎_elim
    (λ as_many. ⊎_elim
    (λ same. inr (inl same))
    (λ o. ⊎_elim (λ less. inl (inr (as_many, less))) (λ less. inr (inr (inr (omega (arith, as_many), less)))) o)
    (cases_order a b))
    (λ o. ⊎_elim (λ fewer. inl (inl fewer)) (λ fewer. inr (inr (inl fewer))) o)
    (cases_order (count_ones a) (count_ones b))

-- how far it is to the end of the order: what falls in a loop over sets in order
pub steps_left : ℕ → ℕ
steps_left a = (65 - count_ones a) * 2 ^ 64 - min a (2 ^ 64 - 1)

falls : (m n a b : ℕ) → n ≤ 64 → b < 2 ^ 64 → (m < n) ⊎ ((m ≡ n) × (a < b)) → (65 - n) * 2 ^ 64 - min b (2 ^ 64 - 1) < (65 - m) * 2 ^ 64 - min a (2 ^ 64 - 1)
falls m n a b most lt before = ⊎_elim (λ fewer. omega (arith, fewer)) (λ less. omega (arith, less.0, less.1)) before

pub steps_left-falls : (a b : ℕ) → b < 2 ^ 64 → IsBefore a b → steps_left b < steps_left a
unfolding steps_left
steps_left-falls a b lt before = falls (count_ones a) (count_ones b) a b (ones-le 64 b lt) lt before
