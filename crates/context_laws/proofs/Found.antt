-- What was found by a walk of several parts was found by each.
use Rattle.std.specs.Prelude.{◌≡◌, ℕ, List, Some, None, ⊤}
use Rattle.std.specs.declared.option.Option.{Option}
use Rattle.std.proofs.Common.{refl, ap, subst}
use Rattle.outlines.specs.Outline as outline
use Rattle.outlines.specs.Outline.{Parts, joined}
use Rattle.contexts.specs.Walk.{Walked, Found, Unresolved, TooMany, then_walk, with_resource}

-- both walks were found, the second from where the first ended
pub found_behind : {X Y G : Type 0} (r : Walked X) (go : X → List ℕ → Walked Y) (y : Y) (m : List ℕ) → then_walk r go ≡ Found y m
    → ((x : X) (k : List ℕ) → r ≡ Found x k → go x k ≡ Found y m → G) → G
found_behind (Found x k) go y m e use_it = use_it x k refl e
found_behind (Unresolved line) go y m e use_it = cc e
found_behind TooMany go y m e use_it = cc e

-- a place was resolved
pub found_at : {G : Type 0} (line : ℕ) (o : Option ℕ) (go : ℕ → Walked Parts) (xs : Parts) (m : List ℕ) → with_resource line o go ≡ Found xs m
    → ((r : ℕ) → o ≡ Some r → go r ≡ Found xs m → G) → G
found_at line None go xs m e use_it = cc e
found_at line (Some r) go xs m e use_it = use_it r refl e

abbrev Of : {X : Type 0} → (X → List ℕ → Type 0) → Walked X → Type 0
Of P (Found x n) = P x n
Of P (Unresolved line) = ⊤
Of P TooMany = ⊤

-- what holds of one finding holds of an equal one
pub carry : {X : Type 0} (P : X → List ℕ → Type 0) (x y : X) (n m : List ℕ) → Found x n ≡ Found y m → P x n → P y m
carry P x y n m e holds = subst (λ w. Of P w) e holds

-- ---- walks that are the same

pub then_again : {X Y Z : Type 0} (r : Walked X) (f : X → List ℕ → Walked Y) (g : Y → List ℕ → Walked Z) → then_walk (then_walk r f) g ≡ then_walk r (λ x k. then_walk (f x k) g)
then_again (Found x k) f g = refl
then_again (Unresolved line) f g = refl
then_again TooMany f g = refl

pub then_same : {X Y : Type 0} (r : Walked X) (f g : X → List ℕ → Walked Y) → ((x : X) (k : List ℕ) → f x k ≡ g x k) → then_walk r f ≡ then_walk r g
then_same (Found x k) f g same = same x k
then_same (Unresolved line) f g same = refl
then_same TooMany f g same = refl

pub then_found : {X : Type 0} (r : Walked X) → then_walk r (λ x k. Found x k) ≡ r
then_found (Found x k) = refl
then_found (Unresolved line) = refl
then_found TooMany = refl

-- ---- parts behind parts

pub joined_nil : (xs : Parts) → joined xs outline.Nil ≡ xs
joined_nil outline.Nil = refl
joined_nil (outline.Cons x xs) = ap (λ r. outline.Cons x r) (joined_nil xs)

pub joined_again : (xs ys zs : Parts) → joined (joined xs ys) zs ≡ joined xs (joined ys zs)
joined_again outline.Nil ys zs = refl
joined_again (outline.Cons x xs) ys zs = ap (λ r. outline.Cons x r) (joined_again xs ys zs)
