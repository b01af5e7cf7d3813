-- Reading a list after a write or a push.
use Rattle.std.proofs.Common.{◌≡◌, ◌≢◌, ℕ, zero, suc, List, [], ◌∷◌, ◌++◌, ◌<◌, length, Some, refl, ap, ◌⊎◌, inl, inr, ⊎_elim, arith}
use Rattle.std.specs.Prelude.{slice_get, slice_set}

-- an element after a write is the one written, or an old one of another place
pub read_set : {X : Type 0} (xs : List X) (i : ℕ) (v : X) (j : ℕ) (w : X) → slice_get (slice_set xs i v) j ≡ Some w → ((j ≡ i) × (w ≡ v)) ⊎ ((j ≢ i) × (slice_get xs j ≡ Some w))
read_set [] i v j w e = absurd (cc e)
read_set (x ∷ xs) zero v zero w e = inl (refl, grind arith)
read_set (x ∷ xs) zero v (suc j) w e = inr (λ s. absurd (omega (arith, s)), e)
read_set (x ∷ xs) (suc i) v zero w e = inr (λ s. absurd (omega (arith, s)), e)
read_set (x ∷ xs) (suc i) v (suc j) w e = ⊎_elim (λ s. inl (ap suc s.0, s.1)) (λ o. inr (λ s. o.0 (omega (arith, s)), o.1)) (read_set xs i v j w e)

-- an element after a push is an old one, or the one pushed
pub read_push : {X : Type 0} (xs : List X) (v : X) (j : ℕ) (w : X) → slice_get (xs ++ v ∷ []) j ≡ Some w → (slice_get xs j ≡ Some w) ⊎ ((j ≡ length xs) × (w ≡ v))
read_push [] v zero w e = inr (refl, grind arith)
read_push [] v (suc j) w e = absurd (cc e)
read_push (x ∷ xs) v zero w e = inl e
read_push (x ∷ xs) v (suc j) w e = ⊎_elim (λ s. inl s) (λ o. inr (ap suc o.0, o.1)) (read_push xs v j w e)

pub get_set_same : {X : Type 0} (xs : List X) (i : ℕ) (v : X) → i < length xs → slice_get (slice_set xs i v) i ≡ Some v
get_set_same [] i v lt = absurd (omega (arith, lt))
get_set_same (x ∷ xs) zero v lt = refl
get_set_same (x ∷ xs) (suc i) v lt = get_set_same xs i v (omega (arith, lt))

pub get_set_other : {X : Type 0} (xs : List X) (i : ℕ) (v : X) (j : ℕ) → j ≢ i → slice_get (slice_set xs i v) j ≡ slice_get xs j
get_set_other [] i v j differs = refl
get_set_other (x ∷ xs) zero v zero differs = absurd (differs refl)
get_set_other (x ∷ xs) zero v (suc j) differs = refl
get_set_other (x ∷ xs) (suc i) v zero differs = refl
get_set_other (x ∷ xs) (suc i) v (suc j) differs = get_set_other xs i v j (λ e. differs (ap suc e))
