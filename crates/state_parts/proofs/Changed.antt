-- A list of which one more is changed.
use Rattle.std.proofs.Common.{◌≡◌, ℕ, zero, suc, ◌+◌, ◌<◌, List, [], ◌∷◌, ◌++◌, length, take, drop, get_or, map, refl, sym, ap, ◌∙◌, arith, add-one}
use Rattle.std.specs.Prelude.{slice_set}

-- one more of a list is changed
changed_more : {X : Type 0} (f : X → X) (xs : List X) (i : ℕ) (d : X) → i < length xs
    → slice_set (map f (take i xs) ++ drop i xs) i (f (get_or (map f (take i xs) ++ drop i xs) i d)) ≡ map f (take (suc i) xs) ++ drop (suc i) xs
changed_more f [] i d lt = absurd (omega arith)
changed_more f (x ∷ xs) zero d lt = refl
changed_more f (x ∷ xs) (suc i) d lt = ap (λ ys. f x ∷ ys) (changed_more f xs i d (omega (arith, lt)))

pub one_more_changed : {X : Type 0} (f : X → X) (xs ys : List X) (i : ℕ) (d : X) → ys ≡ map f (take i xs) ++ drop i xs → i < length xs
    → slice_set ys i (f (get_or ys i d)) ≡ map f (take (i + 1) xs) ++ drop (i + 1) xs
one_more_changed f xs ys i d e lt = ap (λ zs. slice_set zs i (f (get_or zs i d))) e ∙ changed_more f xs i d lt ∙ ap (λ n. map f (take n xs) ++ drop n xs) (sym (add-one i))
