-- Values before others.
use Rattle.std.proofs.Common.{◌≡◌, length, arith, ◌++◌, append_assoc, List, [], ◌∷◌, Option, Some, None, refl, sym, ap}
use Rattle.std.specs.Prelude.{ℤ, option_map}
use Rattle.c_meaning.specs.Places.{in_front}

pub one_more : (old : List ℤ) (z : ℤ) (o : Option (List ℤ)) → option_map (λ zs. old ++ zs) (in_front (Some z) o) ≡ option_map (λ zs. (old ++ z ∷ []) ++ zs) o
one_more old z None = refl
one_more old z (Some zs) = ap (λ l. Some l) (sym (append_assoc old (z ∷ []) zs))

pub no_length : {A : Type 0} (xs : List A) → length xs ≡ 0 → xs ≡ []
no_length [] e = refl
no_length (x ∷ xs) e = absurd (omega (arith, e))
