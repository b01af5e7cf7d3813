-- Sums over the numbers of threads.
use Rattle.std.proofs.Common.{◌≡◌, ◌≢◌, ℕ, zero, suc, ◌+◌, ◌<◌, ◌≤◌, List, [], ◌∷◌, length, refl, ap, ◌∙◌, ⊎_elim, arith}
use Rattle.std.specs.Prelude.{◌==◌, if◌then◌else◌, sum_by, sum}
use Rattle.std.specs.List.{range_with_len}
use Rattle.std.proofs.lemmas.Bool.Decides.{eqb_tells}
use Rattle.std.proofs.lemmas.Bool.{ne_eqb}
use Rattle.std.proofs.lemmas.List.Sums.{sum_by-cons}
use Rattle.c_meaning.specs.Locks.{held_by}

-- of nothing
pub none_summed : (f : ℕ → ℕ) → ((t : ℕ) → f t ≡ 0) → (a n : ℕ) → sum_by f (range_with_len a n) ≡ 0
none_summed f none a zero = refl
none_summed f none a (suc n) =
    let all = sum_by-cons f a (range_with_len (a + 1) n) in
    let first = none a in
    let more = none_summed f none (a + 1) n in
    omega (arith, all, first, more)

abbrev pub one_for : ℕ → ℕ → ℕ
one_for u t = if u == t then 1 else 0

for_other : (u t : ℕ) → u ≢ t → one_for u t ≡ 0
for_other u t other = ap (λ b. if b then 1 else 0) (ne_eqb u t other)

-- of one for a number that came before
past_summed : (u a n : ℕ) → u < a → sum_by (one_for u) (range_with_len a n) ≡ 0
past_summed u a zero past = refl
past_summed u a (suc n) past =
    let all = sum_by-cons (one_for u) a (range_with_len (a + 1) n) in
    let first = for_other u a (omega (arith, past)) in
    let more = past_summed u (a + 1) n (omega (arith, past)) in
    omega (arith, all, first, more)

-- of one for a number among them
pub one_summed : (u a n : ℕ) → a ≤ u → u < a + n → sum_by (one_for u) (range_with_len a n) ≡ 1
one_summed u a zero from below = absurd (omega (arith, from, below))
one_summed u a (suc n) from below =
    let all = sum_by-cons (one_for u) a (range_with_len (a + 1) n) in
    ⊎_elim
    (λ same.
    let first : one_for u a ≡ 1 = ap (λ b. if b then 1 else 0) same.0 in
    let is = same.1 in
    let more = past_summed u (a + 1) n (omega (arith, is)) in
    omega (arith, all, first, more))
    (λ other.
    let first = for_other u a other.1 in
    let apart = other.1 in
    let more = one_summed u (a + 1) n (omega (arith, from, apart)) (omega (arith, below)) in
    omega (arith, all, first, more))
    (eqb_tells u a)

-- of what a row has at each place
pub row_summed : (xs : List ℕ) (g : ℕ → ℕ) (a : ℕ) → ((i : ℕ) → g (a + i) ≡ held_by xs i) → sum_by g (range_with_len a (length xs)) ≡ sum xs
row_summed [] g a is = refl
row_summed (x ∷ xs) g a is =
    let all = sum_by-cons g a (range_with_len (a + 1) (length xs)) in
    let here : a ≡ a + 0 = omega arith in
    let first : g a ≡ x = ap g here ∙ is 0 in
    let more = row_summed xs g (a + 1) (λ i. let along : a + 1 + i ≡ a + suc i = omega arith in ap g along ∙ is (suc i)) in
    let both = sum_by-cons (λ n. n) x xs in
    omega (arith, all, first, more, both)
