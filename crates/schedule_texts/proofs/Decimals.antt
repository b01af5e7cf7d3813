-- How the numbers of threads are written.
use Rattle.std.proofs.Common.{◌≡◌, ℕ, ◌<◌, ◌≤◌, ◌+◌, ◌/◌, ◌%◌, [], ◌∷◌, ◌++◌, ap, ◌∙◌, arith, ◌⊎◌, inl, inr, ⊎_elim}
use Rattle.std.specs.Prelude.{decimal}
use Rattle.std.proofs.lemmas.Bool.{cases_lt}
use Rattle.std.proofs.lemmas.Fmt.{decimal_digit, decimal_step}

-- from 10 to 99
pub decimal_two : (t : ℕ) → 10 ≤ t → t < 100 → decimal t ≡ (48 + t / 10) ∷ (48 + t % 10) ∷ []
decimal_two t two high = decimal_step t two (omega (arith, high)) ∙ ap (λ front. front ++ (48 + t % 10) ∷ []) (decimal_digit (t / 10) (omega (arith, high)))

-- the number of a thread is written in one digit or in two
pub decimal_shape : (t : ℕ) → t < 32 → ((t < 10) × (decimal t ≡ (48 + t) ∷ [])) ⊎ ((10 ≤ t) × (decimal t ≡ (48 + t / 10) ∷ (48 + t % 10) ∷ []))
decimal_shape t high = ⊎_elim
    (λ one. inl (one, decimal_digit t one))
    (λ two. inr (two, decimal_two t two (omega (arith, high))))
    (cases_lt t 10)
