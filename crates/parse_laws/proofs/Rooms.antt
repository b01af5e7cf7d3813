-- Induction on the room: a fact holds in each room, if it holds in one whenever it holds in the room one less.
use Rattle.std.proofs.Common.{◌≡◌, ℕ, zero, suc, subst, arith}

pub by_room : (P : ℕ → Type 0) → ((r : ℕ) → ((m : ℕ) → r ≡ suc m → P m) → P r) → (r : ℕ) → P r
by_room P h zero = h zero (λ m e. absurd cc)
by_room P h (suc r) = h (suc r) (λ m e. let same : r ≡ m = omega arith in subst P same (by_room P h r))
