-- The newest of a thread's frames, which stands last in its list.
use Rattle.std.proofs.Common.{◌≡◌, ℕ, zero, suc, ◌+◌, ◌-◌, ◌<◌, ◌≤◌, List, [], ◌∷◌, ◌++◌, length, take, get_or, set, map, Some, refl, sym, ap, ◌∙◌, arith}
use Rattle.std.specs.Prelude.{reverse, slice_get, slice_set}
use Rattle.std.proofs.lemmas.List.{reverse-append, take_more, take_more_set, take_all, length-set}
use Rattle.std.proofs.lemmas.Option.{slice_get-get_or, get_or_from_slice_get}

-- the last one comes first
pub last_first : {A : Type 0} (xs : List A) (k : ℕ) (x : A) → k + 1 ≡ length xs → slice_get xs k ≡ Some x → reverse xs ≡ x ∷ reverse (take k xs)
last_first xs k x last there =
    let within : k < length xs = omega arith in
    let short : length xs ≤ k + 1 = omega arith in
    let whole : xs ≡ take k xs ++ get_or xs k x ∷ [] = sym (take_all (k + 1) xs short) ∙ take_more xs k x within in
    ap reverse whole ∙ reverse-append (take k xs) (get_or xs k x ∷ []) ∙ ap (λ y. y ∷ reverse (take k xs)) (get_or_from_slice_get xs k x x there)

-- where it has changed, the others are the same
pub last_set : {A : Type 0} (xs : List A) (k : ℕ) (x : A) → k + 1 ≡ length xs → reverse (slice_set xs k x) ≡ x ∷ reverse (take k xs)
last_set xs k x last =
    let within : k < length xs = omega arith in
    let short : length (set xs k x) ≤ k + 1 = omega (arith, length-set xs k x) in
    ap reverse (sym (take_all (k + 1) (set xs k x) short) ∙ take_more_set xs k x within) ∙ reverse-append (take k xs) (x ∷ [])

-- what the frames are, by the newest and the others
pub newest_is : {A B : Type 0} (g : A → B) (xs : List A) (k : ℕ) (x : A) (h : B) (more : List B) → k + 1 ≡ length xs → slice_get xs k ≡ Some x → map g (reverse xs) ≡ h ∷ more → (g x ≡ h) × (map g (reverse (take k xs)) ≡ more)
newest_is g xs k x h more last there is =
    let e : g x ∷ map g (reverse (take k xs)) ≡ h ∷ more = ap (map g) (sym (last_first xs k x last there)) ∙ is in (cc e, cc e)

-- the newest changes
pub newest_set : {A B : Type 0} (g : A → B) (xs : List A) (k : ℕ) (x y : A) (h : B) (more : List B) → k + 1 ≡ length xs → slice_get xs k ≡ Some x → map g (reverse xs) ≡ h ∷ more
    → map g (reverse (slice_set xs k y)) ≡ g y ∷ more
newest_set g xs k x y h more last there is = ap (map g) (last_set xs k y last) ∙ ap (λ l. g y ∷ l) (newest_is g xs k x h more last there is).1

-- the frames below the newest one
pub popped : {A B : Type 0} (g : A → B) (xs : List A) (k : ℕ) (h : B) (more : List B) → k ≡ length xs - 1 → map g (reverse xs) ≡ h ∷ more → map g (reverse (take k xs)) ≡ more
popped g [] k h more at is = absurd (cc is)
popped g (x ∷ xs) k h more at is =
    let last : k + 1 ≡ length (x ∷ xs) = omega (arith, at) in
    let within : k < length (x ∷ xs) = omega (arith, at) in
    (newest_is g (x ∷ xs) k (get_or (x ∷ xs) k x) h more last (slice_get-get_or (x ∷ xs) k x within) is).1

pub second : {A : Type 0} (xs : List A) (k : ℕ) (x : A) → k ≡ length xs - 1 → slice_get (reverse (take k xs)) 0 ≡ Some x → slice_get (reverse xs) 1 ≡ Some x
second [] zero x at e = absurd (cc e)
second [] (suc k) x at e = absurd (cc e)
second (y ∷ xs) k x at e =
    let last : k + 1 ≡ length (y ∷ xs) = omega (arith, at) in
    let within : k < length (y ∷ xs) = omega (arith, at) in
    ap (λ l. slice_get l 1) (last_first (y ∷ xs) k (get_or (y ∷ xs) k y) last (slice_get-get_or (y ∷ xs) k y within)) ∙ e

-- what is at a place is there also where others stand behind
pub get_front : {A : Type 0} (xs ys : List A) (k : ℕ) (x : A) → slice_get xs k ≡ Some x → slice_get (xs ++ ys) k ≡ Some x
get_front [] ys k x e = absurd (cc e)
get_front (y ∷ xs) ys zero x e = e
get_front (y ∷ xs) ys (suc k) x e = get_front xs ys k x e

-- the last one of two writes at a place counts
pub set_twice : {A : Type 0} (xs : List A) (k : ℕ) (x y : A) → slice_set (slice_set xs k x) k y ≡ slice_set xs k y
set_twice [] k x y = refl
set_twice (z ∷ xs) zero x y = refl
set_twice (z ∷ xs) (suc k) x y = ap (λ l. z ∷ l) (set_twice xs k x y)

-- what was written is read
pub get_set : {A : Type 0} (xs : List A) (k : ℕ) (x : A) → k < length xs → slice_get (slice_set xs k x) k ≡ Some x
get_set [] k x within = absurd (omega (arith, within))
get_set (y ∷ xs) zero x within = refl
get_set (y ∷ xs) (suc k) x within = get_set xs k x (omega (arith, within))
