-- Numbers of tokens.
use Rattle.std.proofs.Common.{◌≡◌, ℕ, zero, suc, false, List, [], ◌∷◌, refl, None}
use Rattle.std.specs.Prelude.{slice_get}
use Rattle.held_counts.specs.Refusals.{is_held}

-- of what has no number nothing is held
pub none_held : (xs : List ℕ) (r : ℕ) → slice_get xs r ≡ None → is_held xs r ≡ false
none_held [] r e = refl
none_held (x ∷ xs) zero e = absurd (cc e)
none_held (x ∷ xs) (suc r) e = none_held xs r e
