-- Sets of threads as the bits of a number of 32 bits.
use Rattle.std.proofs.Common.{◌≡◌, ◌<◌, ◌≤◌, ◌==◌, ℕ, true, false, ⊎_elim, sym, ap, ◌∙◌}
use Rattle.std.specs.Prelude.{IsTrue}
use Rattle.std.proofs.lemmas.Bool.{cases_lt}
use Rattle.std.proofs.lemmas.Nat.Bits.{bit_at_ones, bit_at_above}
use Rattle.c_meaning.specs.Closed.{has}

-- all of 32 threads
pub has_all : (t : ℕ) → t < 32 → has 4294967295 t ≡ true
has_all t below = ap (λ b. b == 1) (bit_at_ones 32 t below)

-- a set of 32 bits has no other threads
pub has_few : (set t : ℕ) → set < 4294967296 → IsTrue (has set t) → t < 32
has_few set t fits is = ⊎_elim (λ below. below) (λ above. absurd (clash above)) (cases_lt t 32)
  where
    clash : 32 ≤ t → ⊥
    clash above = let none : has set t ≡ false = ap (λ b. b == 1) (bit_at_above set 32 t fits above) in let both : false ≡ true = sym none ∙ is in cc both
