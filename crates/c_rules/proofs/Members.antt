-- Membership in a list, by recursion.
use Rattle.std.proofs.Common.{◌≡◌, ℕ, Bool, true, false, cond, ◌||◌, List, [], ◌∷◌, ◌++◌, ◌⊎◌, inl, inr, refl, sym, ap, subst, arith}
use Rattle.std.proofs.lemmas.Bool.{cases_eq}
use Rattle.std.specs.Prelude.{Contains, map, flat_map, filter}
use Rattle.std.specs.List.{list_any}
use Rattle.std.proofs.lemmas.List.Elements.{Contains-push_cases, Contains-append_cases, Contains-append_left, Contains-append_right, Contains-push}

abbrev pub In : {X : Type 0} → X → List X → Type 0
In x [] = ⊥
In x (y ∷ ys) = (y ≡ x) ⊎ In x ys

none_in : {X : Type 0} (x : X) → Contains [] x → ⊥
none_in x h = let lt = h.1 in omega arith

head_or_tail : {X : Type 0} (y : X) (ys : List X) (x : X) → Contains (y ∷ ys) x → (y ≡ x) ⊎ Contains ys x
head_or_tail y ys x h = elim (Contains-append_cases (y ∷ []) ys x h) [
  | inl a ↦ elim (Contains-push_cases [] y x a) [ inl n ↦ absurd (none_in x n) | inr e ↦ inl e ]
  | inr b ↦ inr b
]

pub in_of : {X : Type 0} (xs : List X) (x : X) → Contains xs x → In x xs
in_of [] x h = none_in x h
in_of (y ∷ ys) x h = elim (head_or_tail y ys x h) [ inl e ↦ inl e | inr t ↦ inr (in_of ys x t) ]

pub contains_of : {X : Type 0} (xs : List X) (x : X) → In x xs → Contains xs x
contains_of [] x h = absurd h
contains_of (y ∷ ys) x (inl e) = Contains-append_left (y ∷ []) ys x (subst (Contains (y ∷ [])) e (Contains-push [] y))
contains_of (y ∷ ys) x (inr h) = Contains-append_right (y ∷ []) ys x (contains_of ys x h)

-- a number is in a list or it isn't
pub in_or_not : (xs : List ℕ) (x : ℕ) → In x xs ⊎ (In x xs → ⊥)
in_or_not [] x = inr (λ h. h)
in_or_not (y ∷ ys) x = elim (cases_eq y x) [
  | inl e ↦ inl (inl e)
  | inr n ↦ elim (in_or_not ys x) [
    | inl h ↦ inl (inr h)
    | inr m ↦ inr (λ h. elim h [ inl e ↦ n e | inr t ↦ m t ])
  ]
]

pub in_append_left : {X : Type 0} (xs ys : List X) (x : X) → In x xs → In x (xs ++ ys)
in_append_left [] ys x h = absurd h
in_append_left (y ∷ xs) ys x (inl e) = inl e
in_append_left (y ∷ xs) ys x (inr h) = inr (in_append_left xs ys x h)

pub in_append_right : {X : Type 0} (xs ys : List X) (x : X) → In x ys → In x (xs ++ ys)
in_append_right [] ys x h = h
in_append_right (y ∷ xs) ys x h = inr (in_append_right xs ys x h)

pub in_append_cases : {X : Type 0} (xs ys : List X) (x : X) → In x (xs ++ ys) → In x xs ⊎ In x ys
in_append_cases [] ys x h = inr h
in_append_cases (y ∷ xs) ys x (inl e) = inl (inl e)
in_append_cases (y ∷ xs) ys x (inr h) = elim (in_append_cases xs ys x h) [ inl a ↦ inl (inr a) | inr b ↦ inr b ]

pub in_map : {X Y : Type 0} (f : X → Y) (xs : List X) (x : X) → In x xs → In (f x) (map f xs)
in_map f [] x h = absurd h
in_map f (y ∷ xs) x (inl e) = inl (ap f e)
in_map f (y ∷ xs) x (inr h) = inr (in_map f xs x h)

pub in_flat_map : {X Y : Type 0} (f : X → List Y) (xs : List X) (x : X) (y : Y) → In x xs → In y (f x) → In y (flat_map f xs)
in_flat_map f [] x y h k = absurd h
in_flat_map f (z ∷ xs) x y (inl e) k = in_append_left (f z) (flat_map f xs) y (subst (λ w. In y (f w)) (sym e) k)
in_flat_map f (z ∷ xs) x y (inr h) k = in_append_right (f z) (flat_map f xs) y (in_flat_map f xs x y h k)

-- an element of a `flat_map` comes from one
pub data From {X Y : Type 0} (f : X → List Y) (xs : List X) (y : Y) : Type 0 where
  from : (x : X) → In x xs → In y (f x) → From f xs y

from_more : {X Y : Type 0} (f : X → List Y) (z : X) (xs : List X) (y : Y) → From f xs y → From f (z ∷ xs) y
from_more f z xs y (from x h k) = from x (inr h) k

pub from_flat_map : {X Y : Type 0} (f : X → List Y) (xs : List X) (y : Y) → In y (flat_map f xs) → From f xs y
from_flat_map f [] y h = absurd h
from_flat_map f (z ∷ xs) y h = elim (in_append_cases (f z) (flat_map f xs) y h) [
  | inl k ↦ from z (inl refl) k
  | inr k ↦ from_more f z xs y (from_flat_map f xs y k)
]

-- an element of a `map`
pub data Image {X Y : Type 0} (f : X → Y) (xs : List X) (y : Y) : Type 0 where
  image : (x : X) → In x xs → f x ≡ y → Image f xs y

image_more : {X Y : Type 0} (f : X → Y) (z : X) (xs : List X) (y : Y) → Image f xs y → Image f (z ∷ xs) y
image_more f z xs y (image x h e) = image x (inr h) e

pub from_map : {X Y : Type 0} (f : X → Y) (xs : List X) (y : Y) → In y (map f xs) → Image f xs y
from_map f [] y h = absurd h
from_map f (z ∷ xs) y (inl e) = image z (inl refl) e
from_map f (z ∷ xs) y (inr h) = image_more f z xs y (from_map f xs y h)

-- an element of a `filter` passes the test
filtered : {X : Type 0} (test : X → Bool) (b : Bool) (z : X) (zs : List X) (x : X) → test z ≡ b → In x (cond b (z ∷ zs) zs) → ((z ≡ x) × (test x ≡ true)) ⊎ In x zs
filtered test true z zs x e (inl same) = inl (same, subst (λ w. test w ≡ true) same e)
filtered test true z zs x e (inr h) = inr h
filtered test false z zs x e h = inr h

pub from_filter : {X : Type 0} (test : X → Bool) (xs : List X) (x : X) → In x (filter test xs) → In x xs × (test x ≡ true)
from_filter test [] x h = absurd h
from_filter test (z ∷ xs) x h = elim (filtered test (test z) z (filter test xs) x refl h) [
  | inl k ↦ (inl k.0, k.1)
  | inr k ↦ let more = from_filter test xs x k in (inr more.0, more.1)
]

kept : {X : Type 0} (b : Bool) (z : X) (zs : List X) (x : X) → In x zs → In x (cond b (z ∷ zs) zs)
kept true z zs x h = inr h
kept false z zs x h = h

first_kept : {X : Type 0} (b : Bool) (z : X) (zs : List X) (x : X) → b ≡ true → z ≡ x → In x (cond b (z ∷ zs) zs)
first_kept true z zs x e same = inl same
first_kept false z zs x e same = absurd (cc e)

pub in_filter : {X : Type 0} (test : X → Bool) (xs : List X) (x : X) → In x xs → test x ≡ true → In x (filter test xs)
in_filter test [] x h e = absurd h
in_filter test (z ∷ xs) x (inl same) e = first_kept (test z) z (filter test xs) x (subst (λ w. test w ≡ true) (sym same) e) same
in_filter test (z ∷ xs) x (inr h) e = kept (test z) z (filter test xs) x (in_filter test xs x h e)

-- a test that some element passes
pub data Passing {X : Type 0} (test : X → Bool) (xs : List X) : Type 0 where
  passing : (x : X) → In x xs → test x ≡ true → Passing test xs

passing_more : {X : Type 0} (test : X → Bool) (z : X) (xs : List X) → Passing test xs → Passing test (z ∷ xs)
passing_more test z xs (passing x h e) = passing x (inr h) e

either_passes : {X : Type 0} (test : X → Bool) (b : Bool) (z : X) (xs : List X) → test z ≡ b → (b || list_any test xs) ≡ true → (list_any test xs ≡ true → Passing test xs) → Passing test (z ∷ xs)
either_passes test true z xs e h more = passing z (inl refl) e
either_passes test false z xs e h more = passing_more test z xs (more h)

pub from_any : {X : Type 0} (test : X → Bool) (xs : List X) → list_any test xs ≡ true → Passing test xs
from_any test [] h = absurd (cc h)
from_any test (z ∷ xs) h = either_passes test (test z) z xs refl h (from_any test xs)

or_left : (a b : Bool) → a ≡ true → (a || b) ≡ true
or_left true b e = refl
or_left false b e = absurd (cc e)

or_right : (a b : Bool) → b ≡ true → (a || b) ≡ true
or_right true b e = refl
or_right false b e = e

pub any_of : {X : Type 0} (test : X → Bool) (xs : List X) (x : X) → In x xs → test x ≡ true → list_any test xs ≡ true
any_of test [] x h e = absurd h
any_of test (z ∷ xs) x (inl same) e = or_left (test z) (list_any test xs) (subst (λ w. test w ≡ true) (sym same) e)
any_of test (z ∷ xs) x (inr h) e = or_right (test z) (list_any test xs) (any_of test xs x h e)
