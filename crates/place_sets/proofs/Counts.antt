-- How many numbers of a range pass a test.
use Rattle.std.proofs.Common.{◌≡◌, ℕ, zero, suc, ◌+◌, ◌-◌, ◌<◌, ◌≤◌, Bool, false, cond, List, ◌∷◌, refl, sym, ap, ◌∙◌, arith, count_by}
use Rattle.std.specs.List.{range_with_len}
use Rattle.std.proofs.lemmas.List.Sums.{sum_by-cons}

-- what one number adds to a count
abbrev pub one_if : Bool → ℕ
one_if passes = cond passes 1 0

pub count_first : (p : ℕ → Bool) (x : ℕ) (xs : List ℕ) → count_by p (x ∷ xs) ≡ one_if (p x) + count_by p xs
count_first p x xs = sum_by-cons (λ y. one_if (p y)) x xs

-- two tests that answer alike along two ranges
pub count_alike : (p q : ℕ → Bool) (a b n : ℕ) → ((i j : ℕ) → i + b ≡ j + a → a ≤ i → i < a + n → p i ≡ q j) → count_by p (range_with_len a n) ≡ count_by q (range_with_len b n)
count_alike p q a b zero alike = refl
count_alike p q a b (suc n) alike =
    let first = alike a b (omega arith) (omega arith) (omega arith) in
    let rest = count_alike p q (a + 1) (b + 1) n (λ i j e low high. alike i j (omega arith) (omega arith) (omega arith)) in
    count_first p a (range_with_len (a + 1) n)
    ∙ (ap (λ c. one_if c + count_by p (range_with_len (a + 1) n)) first
    ∙ (ap (λ k. one_if (q b) + k) rest
    ∙ sym (count_first q b (range_with_len (b + 1) n))))

-- a range in two parts
pub count_parts : (p : ℕ → Bool) (a b m n all : ℕ) → b ≡ a + m → all ≡ m + n → count_by p (range_with_len a all) ≡ count_by p (range_with_len a m) + count_by p (range_with_len b n)
count_parts p a b zero n all at whole =
    let e : b ≡ a = omega arith in
    let f : all ≡ n = omega arith in
    let z : count_by p (range_with_len a 0) ≡ 0 = refl in
    rw (e, f) (omega (arith, z))
count_parts p a b (suc m) n all at whole =
    let e : all ≡ suc (m + n) = omega arith in
    let rest = count_parts p (a + 1) b m n (m + n) (omega arith) refl in
    let whole_first = count_first p a (range_with_len (a + 1) (m + n)) in
    let part_first = count_first p a (range_with_len (a + 1) m) in
    rw e (omega (arith, rest, whole_first, part_first))

-- nothing passes
pub count_none : (p : ℕ → Bool) (a n : ℕ) → ((i : ℕ) → a ≤ i → i < a + n → p i ≡ false) → count_by p (range_with_len a n) ≡ 0
count_none p a zero none = refl
count_none p a (suc n) none =
    let first : one_if (p a) ≡ 0 = rw (none a (omega arith) (omega arith)) refl in
    let rest = count_none p (a + 1) n (λ i low high. none i (omega arith) (omega arith)) in
    omega (arith, count_first p a (range_with_len (a + 1) n), first, rest)

-- nothing passes from a bound on, so a longer range counts no more
pub count_up_to : (p : ℕ → Bool) (bound n : ℕ) → bound ≤ n → ((i : ℕ) → bound ≤ i → p i ≡ false) → count_by p (range_with_len 0 n) ≡ count_by p (range_with_len 0 bound)
count_up_to p bound n le none =
    let parts = count_parts p 0 bound bound (n - bound) n (omega arith) (omega arith) in
    let nothing = count_none p bound (n - bound) (λ i low high. none i low) in
    omega (arith, parts, nothing)
