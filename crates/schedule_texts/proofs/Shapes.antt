-- Lists of a known length.
use Rattle.std.proofs.Common.{◌≡◌, ◌≢◌, ℕ, suc, ◌+◌, ◌<◌, ◌≤◌, true, false, List, [], ◌∷◌, ◌++◌, length, get_or, take, map, refl, ap, ◌∙◌, arith}
use Rattle.std.proofs.Math.Seq.{take-suc}
use Rattle.std.proofs.lemmas.List.{length-map}
use Rattle.std.proofs.lemmas.Bool.Decides.{nat_tests}
use Rattle.schedule_texts.specs.Inputs.{is_empty}
use Rattle.schedule_texts.specs.Schedules.{is_silent}

pub one_of : {X : Type 0} (xs : List X) (d : X) → 1 ≤ length xs → length xs < 2 → xs ≡ get_or xs 0 d ∷ []
one_of [] d low high = absurd (omega (arith, low))
one_of (x ∷ []) d low high = refl
one_of (x ∷ y ∷ xs) d low high = absurd (omega (arith, high))

pub two_of : {X : Type 0} (xs : List X) (d : X) → 2 ≤ length xs → length xs < 3 → xs ≡ get_or xs 0 d ∷ get_or xs 1 d ∷ []
two_of [] d low high = absurd (omega (arith, low))
two_of (x ∷ []) d low high = absurd (omega (arith, low))
two_of (x ∷ y ∷ []) d low high = refl
two_of (x ∷ y ∷ z ∷ xs) d low high = absurd (omega (arith, high))

-- a line that isn't empty and doesn't begin with `#` says something
pub says_when : (line : List ℕ) → 0 < length line → get_or line 0 0 ≢ 35 → is_silent line ≡ false
says_when [] some other = absurd (omega (arith, some))
says_when (b ∷ rest) some other = grind (arith, nat_tests)

-- whether a list has elements
pub empty_when : (xs : List ℕ) → length xs ≡ 0 → is_empty xs ≡ true
empty_when [] none = refl
empty_when (x ∷ xs) none = absurd (omega (arith, none))

pub not_empty_when : (xs : List ℕ) → 0 < length xs → is_empty xs ≡ false
not_empty_when [] some = absurd (omega (arith, some))
not_empty_when (x ∷ xs) some = refl

-- one element more of the front of a list
pub next : (lines : List (List ℕ)) (k : ℕ) → k < length lines → take (k + 1) lines ≡ take k lines ++ get_or lines k [] ∷ []
next lines k within = let one : k + 1 ≡ suc k = omega arith in ap (λ n. take n lines) one ∙ take-suc lines k [] within

-- a place of a list is one of what a function makes of its elements
pub inside : {A B : Type 0} (f : A → B) (items : List A) (k : ℕ) → k < length items → k < length (map f items)
inside f items k within = omega (arith, length-map items f, within)
