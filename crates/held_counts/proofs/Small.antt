-- Options, tests and counts.
use Rattle.std.proofs.Common.{◌≡◌, ℕ, zero, suc, ◌<◌, Bool, true, false, not, ◌&&◌, ◌||◌, List, [], ◌∷◌, Some, None, Option, ◌⊎◌, inl, inr, refl, sym, ap, ◌∙◌, ⊎_elim, arith}
use Rattle.std.specs.Prelude.{slice_index, slice_set, nat_lt, if◌then◌else◌}
use Rattle.std.specs.Option.{option_or}
use Rattle.std.proofs.lemmas.Bool.{lt-ltb, ltb-true, ltb-false}
use Rattle.std.proofs.lemmas.Slice.Eq.{bytes_eq-Decides}
use Rattle.held_counts.specs.declared.HeldKind.{HeldKind}
use Rattle.held_counts.specs.Refusals.{refuse, is_held, differ}

pub none_left : {X : Type 0} (a b : Option X) → option_or a b ≡ None → a ≡ None
none_left None b e = refl
none_left (Some x) b e = absurd (cc e)

pub none_right : {X : Type 0} (a b : Option X) → option_or a b ≡ None → b ≡ None
none_right None b e = e
none_right (Some x) b e = absurd (cc e)

pub none_both : {X : Type 0} (a b : Option X) → a ≡ None → b ≡ None → option_or a b ≡ None
none_both None b e f = f
none_both (Some x) b e f = absurd (cc e)

pub or_none : {X : Type 0} (a : Option X) → option_or a None ≡ a
or_none None = refl
or_none (Some x) = refl

pub or_assoc : {X : Type 0} (a b c : Option X) → option_or (option_or a b) c ≡ option_or a (option_or b c)
or_assoc None b c = refl
or_assoc (Some x) b c = refl

-- what the first two give all three give
pub or_more : {X : Type 0} (a b c : Option X) (x : X) → option_or a b ≡ Some x → option_or a (option_or b c) ≡ Some x
or_more None None c x e = absurd (cc e)
or_more None (Some y) c x e = e
or_more (Some y) b c x e = e

pub unrefused : (b : Bool) (kind : HeldKind) (line : ℕ) → refuse b kind line ≡ None → b ≡ false
unrefused true kind line e = absurd (cc e)
unrefused false kind line e = refl

pub un_not : (b : Bool) → not b ≡ false → b ≡ true
un_not true e = refl
un_not false e = absurd (cc e)

pub same_counts : (xs ys : List ℕ) → differ xs ys ≡ false → xs ≡ ys
same_counts xs ys e = (bytes_eq-Decides xs ys).0 (un_not _ e)

pub no_difference : (xs ys : List ℕ) → xs ≡ ys → differ xs ys ≡ false
no_difference xs ys e = ap not ((bytes_eq-Decides xs ys).1 e)

pub and_both : (a b : Bool) → a ≡ true → b ≡ true → a && b ≡ true
and_both true b p q = q
and_both false b p q = absurd (cc p)

pub and_rest : (a b : Bool) → a && b ≡ false → a ≡ true → b ≡ false
and_rest true b e t = e
and_rest false b e t = absurd (cc t)

pub guarded : (a b : Bool) → (a ≡ true → b ≡ false) → a && b ≡ false
guarded true b go = go refl
guarded false b go = refl

-- both arms lead to where control goes on
pub arms_meet : (a b : Bool) (x y at : List ℕ) → ((a || b) ≡ true → at ≡ (if a then x else y)) → (a && b && differ x y) ≡ false → (a ≡ true → at ≡ x) × (b ≡ true → at ≡ y)
arms_meet true true x y at to off = ((λ t. to refl), (λ t. to refl ∙ same_counts x y off))
arms_meet true false x y at to off = ((λ t. to refl), (λ t. absurd (cc t)))
arms_meet false true x y at to off = ((λ t. absurd (cc t)), (λ t. to refl))
arms_meet false false x y at to off = ((λ t. absurd (cc t)), (λ t. absurd (cc t)))

pub arms_met : (a b : Bool) (x y at : List ℕ) → (a ≡ true → at ≡ x) → (b ≡ true → at ≡ y) → ((a && b && differ x y) ≡ false) × ((a || b) ≡ true → at ≡ (if a then x else y))
arms_met true true x y at one two = (no_difference x y (sym (one refl) ∙ two refl), (λ t. one refl))
arms_met true false x y at one two = (refl, (λ t. one refl))
arms_met false true x y at one two = (refl, (λ t. two refl))
arms_met false false x y at one two = (refl, (λ t. absurd (cc t)))

-- another number isn't changed
pub set_cases : (xs : List ℕ) (r s v : ℕ) → (slice_index (slice_set xs r v) s ≡ slice_index xs s) ⊎ ((s ≡ r) × (slice_index (slice_set xs r v) s ≡ v))
set_cases [] r s v = inl refl
set_cases (x ∷ xs) zero zero v = inr (refl, refl)
set_cases (x ∷ xs) zero (suc s) v = inl refl
set_cases (x ∷ xs) (suc r) zero v = inl refl
set_cases (x ∷ xs) (suc r) (suc s) v = ⊎_elim (λ e. inl e) (λ e. inr (ap suc e.0, e.1)) (set_cases xs r s v)

pub set_here : (xs : List ℕ) (r v : ℕ) → (slice_index (slice_set xs r v) r ≡ v) ⊎ (slice_index (slice_set xs r v) r ≡ 0)
set_here [] r v = inr refl
set_here (x ∷ xs) zero v = inl refl
set_here (x ∷ xs) (suc r) v = set_here xs r v

-- a mutex is free, and a resource is held
pub free_of : (m r : ℕ) (here : List ℕ) → (nat_lt r m && is_held here r) ≡ false → r < m → slice_index here r ≡ 0
free_of m r here off lt = omega (arith, ltb-false 0 (slice_index here r) (and_rest (nat_lt r m) (is_held here r) off (lt-ltb r m lt)))

pub free_off : (m r : ℕ) (here : List ℕ) → (r < m → slice_index here r ≡ 0) → (nat_lt r m && is_held here r) ≡ false
free_off m r here free = guarded (nat_lt r m) (is_held here r) (λ lt. ap (λ k. nat_lt 0 k) (free (ltb-true r m lt)))

pub held_of : (r : ℕ) (here : List ℕ) → not (is_held here r) ≡ false → 0 < slice_index here r
held_of r here off = ltb-true 0 (slice_index here r) (un_not (is_held here r) off)

pub held_off : (r : ℕ) (here : List ℕ) → 0 < slice_index here r → not (is_held here r) ≡ false
held_off r here lt = ap not (lt-ltb 0 (slice_index here r) lt)
