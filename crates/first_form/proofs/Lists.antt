-- Lists that are searched by a field.
use Rattle.std.proofs.Common.{◌≡◌, ℕ, Bool, true, false, ◌&&◌, ◌||◌, List, [], ◌∷◌, map, filter, refl, ap, bytes_eq}
use Rattle.std.specs.List.{list_any}
use Rattle.c_rules.specs.Names.{mentions}

pub list_any-map : {A B : Type 0} (test : B → Bool) (f : A → B) (xs : List A) → list_any test (map f xs) ≡ list_any (λ x. test (f x)) xs
list_any-map test f [] = refl
list_any-map test f (x ∷ xs) = ap (λ b. test (f x) || b) (list_any-map test f xs)

pub list_any-filter : {A : Type 0} (test keep : A → Bool) (xs : List A) → list_any test (filter keep xs) ≡ list_any (λ x. keep x && test x) xs
list_any-filter test keep [] = refl
list_any-filter test keep (x ∷ xs) = by (keep x) refl (list_any-filter test keep xs)
  where
    by : (k : Bool) → keep x ≡ k → list_any test (filter keep xs) ≡ list_any (λ y. keep y && test y) xs → list_any test (filter keep (x ∷ xs)) ≡ list_any (λ y. keep y && test y) (x ∷ xs)
    by true e h = rw e (ap (λ b. test x || b) h)
    by false e h = rw e h

-- whether some item's name is this one
pub mentions_of : {A : Type 0} (name_of : A → List ℕ) (items : List A) (name : List ℕ)
    → mentions (map name_of items) name ≡ list_any (λ item. bytes_eq name (name_of item)) items
mentions_of name_of items name = list_any-map (bytes_eq name) name_of items
