-- The only edge of a point.
use Rattle.std.proofs.Common.{◌≡◌, ℕ, zero, suc, ◌<◌, List, [], ◌∷◌, Bool, true, ◌==◌, Some, refl, sym, ◌∙◌, subst, ⊎_elim, arith}
use Rattle.std.specs.Prelude.{slice_get, count_by, IsFalse, cond}
use Rattle.std.proofs.lemmas.Bool.{cases_lt, cond-true, both_ways, eq-eqb, lt-ltb}
use Rattle.std.proofs.lemmas.Option.{same_Some}
use Rattle.std.proofs.lemmas.List.Sums.{sum_by-cons}
use Rattle.edges.specs.declared.Edge.{Edge}
use Rattle.net_laws.specs.Net.{Net, HasEdge}
use Rattle.weight_laws.specs.Flow.{branches}

count_some : {X : Type 0} (p : X → Bool) (xs : List X) (k : ℕ) (x : X) → slice_get xs k ≡ Some x → p x ≡ true → 0 < count_by p xs
count_some p [] k x at on = absurd (cc at)
count_some p (y ∷ ys) zero x at on =
    let same : y ≡ x = same_Some _ _ at in
    omega (arith, sum_by-cons (λ z. cond (p z) 1 0) y ys, cond-true {A = ℕ} (p y) 1 0 (subst (λ z. p z ≡ true) (sym same) on))
count_some p (y ∷ ys) (suc k) x at on = omega (arith, sum_by-cons (λ z. cond (p z) 1 0) y ys, count_some p ys k x at on)

-- where at most one counts, those that count are one
one_counts : {X : Type 0} (p : X → Bool) (xs : List X) (j k : ℕ) (x y : X) → count_by p xs < 2 → slice_get xs j ≡ Some x → slice_get xs k ≡ Some y → p x ≡ true → p y ≡ true → x ≡ y
one_counts p [] j k x y few at to on off = absurd (cc at)
one_counts p (z ∷ zs) zero zero x y few at to on off = sym (same_Some _ _ at) ∙ same_Some _ _ to
one_counts p (z ∷ zs) zero (suc k) x y few at to on off =
    let same : z ≡ x = same_Some _ _ at in
    absurd (omega (arith, few, sum_by-cons (λ z. cond (p z) 1 0) z zs, cond-true {A = ℕ} (p z) 1 0 (subst (λ z. p z ≡ true) (sym same) on), count_some p zs k y to off))
one_counts p (z ∷ zs) (suc j) zero x y few at to on off =
    let same : z ≡ y = same_Some _ _ to in
    absurd (omega (arith, few, sum_by-cons (λ z. cond (p z) 1 0) z zs, cond-true {A = ℕ} (p z) 1 0 (subst (λ z. p z ≡ true) (sym same) off), count_some p zs j x at on))
one_counts p (z ∷ zs) (suc j) (suc k) x y few at to on off =
    one_counts p zs j k x y (omega (arith, few, sum_by-cons (λ z. cond (p z) 1 0) z zs)) at to on off

-- where no other edge leaves the point, its edges are one
pub alone : (n : Net) (e d : Edge) → HasEdge n e → HasEdge n d → e.from ≡ d.from → IsFalse (branches n e.from) → e ≡ d
alone n e d has has_d same off =
    let p : Edge → Bool = λ x. x.from == e.from in
    ⊎_elim
    (λ lt. absurd (both_ways _ off (lt-ltb 1 (count_by p n.edges) lt)))
    (λ le. one_counts p n.edges has.0 has_d.0 e d (omega (arith, le)) has.1 has_d.1 (eq-eqb e.from e.from refl) (eq-eqb d.from e.from (sym same)))
    (cases_lt 1 (count_by p n.edges))
