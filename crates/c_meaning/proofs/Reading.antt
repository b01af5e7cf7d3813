-- What tests, lists and look-ups say.
use Rattle.std.proofs.Common.{◌≡◌, ◌≢◌, ◌<◌, ℕ, zero, suc, ◌+◌, Bool, true, false, List, [], ◌∷◌, Option, Some, None, refl, ap, subst, ◌⊎◌, inl, inr, ⊎_elim, arith}
use Rattle.std.specs.Prelude.{ℤ, pos, negsuc, ◌&&◌, ◌||◌, if◌then◌else◌, nat_lt, slice_get, slice_set, bytes_eq, find, sum_by, unwrap_or, option_map, ⊤}
use Rattle.std.specs.Option.{is_none}
use Rattle.std.proofs.lemmas.Bool.{ltb-true}
use Rattle.std.proofs.lemmas.List.Sums.{sum_by-cons}
use Rattle.std.proofs.lemmas.Slice.Eq.{bytes_eq-Decides}
use Rattle.c_tree.specs.Bare.{Object}
use Rattle.c_tree.specs.Numbering.{index_within, member, object_count, numbered}

-- both sides of `&&`
pub both_true : (a b : Bool) → (a && b) ≡ true → (a ≡ true) × (b ≡ true)
both_true true b e = (refl, e)
both_true false b e = absurd (cc e)

pub or_right : (a b : Bool) → b ≡ true → (a || b) ≡ true
or_right true b e = refl
or_right false b e = e

pub and_of : (a b : Bool) → a ≡ true → b ≡ true → (a && b) ≡ true
and_of true b ea eb = eb
and_of false b ea eb = ea

-- an `if` that gives nothing went to its else
pub if_none : (b : Bool) (line : ℕ) (later : Option ℕ) → (if b then Some line else later) ≡ None → (b ≡ false) × (later ≡ None)
if_none true line later e = absurd (cc e)
if_none false line later e = (refl, e)

pub none_is : {X : Type 0} (o : Option X) → is_none o ≡ true → o ≡ None
none_is None e = refl
none_is (Some x) e = absurd (cc e)

pub some_is : {X : Type 0} (a b : X) → Some a ≡ Some b → a ≡ b
some_is a b e = grind arith

pub same_bytes : (xs ys : List ℕ) → bytes_eq xs ys ≡ true → xs ≡ ys
same_bytes xs ys e = (bytes_eq-Decides xs ys).0 e

pub bytes_eq_itself : (xs : List ℕ) → bytes_eq xs xs ≡ true
bytes_eq_itself xs = (bytes_eq-Decides xs xs).1 refl

-- what is read after a write is what was written, or what was there
pub read_after : {X : Type 0} (xs : List X) (i : ℕ) (v : X) (j : ℕ) (w : X) → slice_get (slice_set xs i v) j ≡ Some w → ((j ≡ i) × (w ≡ v)) ⊎ ((j ≢ i) × (slice_get xs j ≡ Some w))
read_after [] i v j w e = absurd (cc e)
read_after (x ∷ xs) zero v zero w e = inl (refl, grind arith)
read_after (x ∷ xs) zero v (suc j) w e = inr (omega arith, e)
read_after (x ∷ xs) (suc i) v zero w e = inr (omega arith, e)
read_after (x ∷ xs) (suc i) v (suc j) w e = ⊎_elim (λ same. inl (ap suc same.0, same.1)) (λ other. inr ((λ same. other.0 (omega arith)), other.1)) (read_after xs i v j w e)

pub unwritten : {X : Type 0} (xs : List X) (i j : ℕ) (v : X) → j ≢ i → slice_get (slice_set xs i v) j ≡ slice_get xs j
unwritten [] i j v other = refl
unwritten (x ∷ xs) zero zero v other = absurd (other refl)
unwritten (x ∷ xs) zero (suc j) v other = refl
unwritten (x ∷ xs) (suc i) zero v other = refl
unwritten (x ∷ xs) (suc i) (suc j) v other = unwritten xs i j v (λ e. other (ap suc e))

-- a fact of each element
abbrev pub Each : {X : Type 0} → (X → Type 0) → List X → Type 0
Each P [] = ⊤
Each P (x ∷ xs) = P x × Each P xs

pub found_each : {X : Type 0} (P : X → Type 0) (test : X → Bool) (xs : List X) (x : X) → Each P xs → find test xs ≡ Some x → P x
found_each P test [] x each e = absurd (cc e)
found_each P test (y ∷ ys) x each e = by (test y) (λ found. found_each P test ys x each.1 found) e
  where
    by : (b : Bool) → (find test ys ≡ Some x → P x) → (if b then Some y else find test ys) ≡ Some x → P x
    by true later found = let same : y ≡ x = grind arith in subst P same each.0
    by false later found = later found

-- a number that is given to an object is below the number of objects
within_of : (len : ℕ) (z : ℤ) (k : ℕ) → index_within len z ≡ Some k → k < len
within_of len (pos j) k e = by (nat_lt j len) refl e
  where
    by : (b : Bool) → nat_lt j len ≡ b → (if b then Some j else None) ≡ Some k → k < len
    by true lt same = let is : j ≡ k = grind arith in omega (arith, is, ltb-true j len lt)
    by false lt same = absurd (cc same)
within_of len (negsuc j) k e = absurd (cc e)

member_below : (before : ℕ) (len : Option ℕ) (index : Option ℤ) (r : ℕ) → member before len index ≡ Some r → r < before + unwrap_or len 1
member_below before None None r e = let same : before ≡ r = grind arith in omega (arith, same)
member_below before None (Some z) r e = absurd (cc e)
member_below before (Some len) None r e = absurd (cc e)
member_below before (Some len) (Some z) r e = by (index_within len z) refl e
  where
    by : (o : Option ℕ) → index_within len z ≡ o → option_map (λ k. before + k) o ≡ Some r → r < before + len
    by None at same = absurd (cc same)
    by (Some k) at same = let is : before + k ≡ r = grind arith in omega (arith, is, within_of len z k at)

pub numbered_below : (before : ℕ) (os : List Object) (name : List ℕ) (index : Option ℤ) (r : ℕ) → numbered before os name index ≡ Some r → r < before + sum_by object_count os
numbered_below before [] name index r e = absurd (cc e)
numbered_below before (o ∷ os) name index r e = by (bytes_eq o.name name) (λ later. numbered_below (before + object_count o) os name index r later) e
  where
    by : (b : Bool) → (numbered (before + object_count o) os name index ≡ Some r → r < before + object_count o + sum_by object_count os)
        → (if b then member before o.len index else numbered (before + object_count o) os name index) ≡ Some r → r < before + sum_by object_count (o ∷ os)
    by true later at = omega (arith, sum_by-cons object_count o os, member_below before o.len index r at)
    by false later at = omega (arith, sum_by-cons object_count o os, later at)
