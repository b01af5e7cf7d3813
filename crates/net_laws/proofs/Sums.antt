-- Sums over the points of a marking and over the members of a set.
use Rattle.std.proofs.Common.{◌≡◌, ℕ, zero, suc, ◌+◌, ◌*◌, ◌<◌, ◌≤◌, List, [], ◌∷◌, Bool, true, false, Some, refl, sym, ap, ◌∙◌, subst, ⊎_elim, arith}
use Rattle.std.specs.Prelude.{slice_get, sum_by, ◌==◌, if◌then◌else◌}
use Rattle.std.specs.List.{list_any}
use Rattle.std.proofs.lemmas.Bool.{cases_lt, cases_Bool, or_cases, or_left, or_right, eqb-true, cond-true, cond-false, false≢true, ne_eqb}
use Rattle.std.proofs.lemmas.List.Sums.{sum_by-cons}
use Rattle.net_laws.specs.Lines.{total}

pub any_at : {X : Type 0} (p : X → Bool) (xs : List X) (k : ℕ) (x : X) → slice_get xs k ≡ Some x → p x ≡ true → list_any p xs ≡ true
any_at p [] k x at pass = absurd (cc at)
any_at p (y ∷ ys) zero x at pass = or_left _ _ (let same : y ≡ x = grind arith in subst (λ z. p z ≡ true) (sym same) pass)
any_at p (y ∷ ys) (suc k) x at pass = or_right _ _ (any_at p ys k x at pass)

pub any_from : {X : Type 0} (p : X → Bool) (xs : List X) → list_any p xs ≡ true → (k : ℕ) × (x : X) × (slice_get xs k ≡ Some x) × (p x ≡ true)
any_from p [] e = absurd (false≢true e)
any_from p (y ∷ ys) e = ⊎_elim (λ pass. (0, y, refl, pass)) (λ more. let r = any_from p ys more in (suc r.0, r.1, r.2, r.3)) (or_cases _ _ e)

-- a positive sum has a positive part
pub positive : {X : Type 0} (f : X → ℕ) (xs : List X) → 0 < sum_by f xs → (k : ℕ) × (x : X) × (slice_get xs k ≡ Some x) × (0 < f x)
positive f [] lt = absurd (omega arith)
positive f (y ∷ ys) lt =
    let cons = sum_by-cons f y ys in
    ⊎_elim
    (λ here. (0, y, refl, here))
    (λ none. let r = positive f ys (omega arith) in (suc r.0, r.1, r.2, r.3))
    (cases_lt 0 (f y))

pub sum_le : {X : Type 0} (f g : X → ℕ) (xs : List X) → ((k : ℕ) (x : X) → slice_get xs k ≡ Some x → f x ≤ g x) → sum_by f xs ≤ sum_by g xs
sum_le f g [] le = omega arith
sum_le f g (y ∷ ys) le = omega (arith, sum_by-cons f y ys, sum_by-cons g y ys, le 0 y refl, sum_le f g ys (λ k x at. le (suc k) x at))

pub scaled : {X : Type 0} (c : ℕ) (f : X → ℕ) (xs : List X) → sum_by (λ x. c * f x) xs ≡ c * sum_by f xs
scaled c f [] = omega arith
scaled c f (y ∷ ys) =
    let whole = ap (λ z. c * z) (sum_by-cons f y ys) in
    omega (arith, sum_by-cons (λ x. c * f x) y ys, whole, scaled c f ys)

-- a sum of sums
pub sum_plus : {X : Type 0} (f g : X → ℕ) (xs : List X) → sum_by (λ x. f x + g x) xs ≡ sum_by f xs + sum_by g xs
sum_plus f g [] = omega arith
sum_plus f g (y ∷ ys) = omega (arith, sum_by-cons (λ x. f x + g x) y ys, sum_by-cons f y ys, sum_by-cons g y ys, sum_plus f g ys)

pub sum_zero : {X : Type 0} (xs : List X) → sum_by (λ x. 0) xs ≡ 0
sum_zero [] = refl
sum_zero (y ∷ ys) = omega (arith, sum_by-cons (λ x. 0) y ys, sum_zero ys)

-- the parts of f that p picks are at most c where p picks one place alone
none_of : (th : ℕ → ℕ) (i a c : ℕ) (m : List ℕ) → i < a → ((k p : ℕ) → slice_get m k ≡ Some p → th p ≡ a + k) → sum_by (λ p. if th p == i then c else 0) m ≡ 0
none_of th i a c [] lt at = refl
none_of th i a c (p ∷ ps) lt at =
    let first : (th p == i) ≡ false = ne_eqb _ _ (λ e. omega (arith, at 0 p refl)) in
    let zero_here : (if th p == i then c else 0) ≡ 0 = cond-false _ _ _ first in
    omega (arith, sum_by-cons (λ p. if th p == i then c else 0) p ps, none_of th i (suc a) c ps (omega arith) (λ k q e. omega (arith, at (suc k) q e)))

pub one_of : (th : ℕ → ℕ) (i a c : ℕ) (m : List ℕ) → ((k p : ℕ) → slice_get m k ≡ Some p → th p ≡ a + k) → sum_by (λ p. if th p == i then c else 0) m ≤ c
one_of th i a c [] at = omega arith
one_of th i a c (p ∷ ps) at =
    let cons = sum_by-cons (λ p. if th p == i then c else 0) p ps in
    let later : (k q : ℕ) → slice_get ps k ≡ Some q → th q ≡ suc a + k = λ k q e. omega (arith, at (suc k) q e) in
    ⊎_elim
    (λ pass. let is : th p ≡ i = eqb-true _ _ pass in
    let here : (if th p == i then c else 0) ≡ c = cond-true _ _ _ pass in
    omega (arith, cons, here, none_of th i (suc a) c ps (omega (arith, is, at 0 p refl)) later))
    (λ fail. let here : (if th p == i then c else 0) ≡ 0 = cond-false _ _ _ fail in
    omega (arith, cons, here, one_of th i (suc a) c ps later))
    (cases_Bool (th p == i))

-- sums over points and over members change places
total_zero : (k : ℕ) (R : ℕ → Bool) → total k R (λ r. 0) ≡ 0
total_zero zero R = refl
total_zero (suc k) R =
    ⊎_elim
    (λ pass. omega (arith, total_zero k R, cond-true {A = ℕ} (R k) 0 0 pass))
    (λ fail. omega (arith, total_zero k R, cond-false {A = ℕ} (R k) 0 0 fail))
    (cases_Bool (R k))

total_sum : (k : ℕ) (R : ℕ → Bool) (f g h : ℕ → ℕ) → ((r : ℕ) → h r ≡ f r + g r) → total k R h ≡ total k R f + total k R g
total_sum zero R f g h e = omega arith
total_sum (suc k) R f g h e =
    ⊎_elim
    (λ pass. omega (arith, total_sum k R f g h e, e k, cond-true (R k) (f k) 0 pass, cond-true (R k) (g k) 0 pass, cond-true (R k) (h k) 0 pass))
    (λ fail. omega (arith, total_sum k R f g h e, cond-false (R k) (f k) 0 fail, cond-false (R k) (g k) 0 fail, cond-false (R k) (h k) 0 fail))
    (cases_Bool (R k))

pub swapped : (k : ℕ) (R : ℕ → Bool) (h : ℕ → ℕ → ℕ) (m : List ℕ) → sum_by (λ p. total k R (h p)) m ≡ total k R (λ r. sum_by (λ p. h p r) m)
swapped k R h [] = sym (total_zero k R)
swapped k R h (p ∷ ps) =
    sum_by-cons (λ p. total k R (h p)) p ps
    ∙ ap (λ z. total k R (h p) + z) (swapped k R h ps)
    ∙ sym (total_sum k R (h p) (λ r. sum_by (λ p. h p r) ps) (λ r. sum_by (λ p. h p r) (p ∷ ps)) (λ r. sum_by-cons (λ p. h p r) p ps))

pub total_same : (k : ℕ) (R : ℕ → Bool) (f g : ℕ → ℕ) → ((r : ℕ) → r < k → R r ≡ true → f r ≡ g r) → total k R f ≡ total k R g
total_same zero R f g e = refl
total_same (suc k) R f g e =
    let before = total_same k R f g (λ r lt. e r (omega arith)) in
    ⊎_elim
    (λ pass. omega (arith, before, e k (omega arith) pass, cond-true (R k) (f k) 0 pass, cond-true (R k) (g k) 0 pass))
    (λ fail. omega (arith, before, cond-false (R k) (f k) 0 fail, cond-false (R k) (g k) 0 fail))
    (cases_Bool (R k))

pub total_positive : (k : ℕ) (R : ℕ → Bool) (f : ℕ → ℕ) (r : ℕ) → r < k → R r ≡ true → 0 < f r → 0 < total k R f
total_positive zero R f r lt in_R pos = absurd (omega arith)
total_positive (suc k) R f r lt in_R pos =
    ⊎_elim
    (λ below. omega (arith, total_positive k R f r below in_R pos))
    (λ le. let same : r ≡ k = omega arith in
    omega (arith, cond-true (R k) (f k) 0 (subst (λ x. R x ≡ true) same in_R), subst (λ x. 0 < f x) same pos))
    (cases_lt r k)
