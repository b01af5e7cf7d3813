-- A search finds each candidate once, in order.
use Rattle.std.proofs.Common.{◌≡◌, ℕ, zero, suc, ◌<◌, List, [], ◌∷◌, Some, refl, sym, subst, ⊎_elim, arith}
use Rattle.std.specs.Prelude.{slice_get}
use Rattle.std.proofs.lemmas.Option.{same_Some}
use Rattle.net_laws.specs.Net.{Net}
use Rattle.net_laws.specs.Candidates.{IsCandidate, members}
use Rattle.candidates.specs.Order.{IsBefore}
use Rattle.candidates.specs.Next.{IsBehind}
use Rattle.candidates.specs.Listed.{AreFound}
use Rattle.candidates.proofs.Order.{before_trans}

pub found_each : (n : Net) (found : List ℕ) (after C : ℕ) → AreFound n after found → IsBehind n after C → (k : ℕ) × (slice_get found k ≡ Some C)
found_each n [] after C none is = absurd (none C is)
found_each n (x ∷ xs) after C are is =
    ⊎_elim
    (λ same. (0, subst (λ y. Some x ≡ Some y) (sym same) refl))
    (λ behind. let r = found_each n xs x C are.1 (record { below = is.below; candidate = is.candidate; behind = behind }) in (suc r.0, r.1))
    (are.0.first C is)

pub found_only : (n : Net) (found : List ℕ) (after k C : ℕ) → AreFound n after found → slice_get found k ≡ Some C → IsCandidate n (members C)
found_only n [] after k C none at = absurd (cc at)
found_only n (x ∷ xs) after zero C are at = subst (λ y. IsCandidate n (members y)) (same_Some x C at) are.0.is.candidate
found_only n (x ∷ xs) after (suc k) C are at = found_only n xs x k C are.1 at

found_behind : (n : Net) (found : List ℕ) (after k C : ℕ) → AreFound n after found → slice_get found k ≡ Some C → IsBefore after C
found_behind n [] after k C none at = absurd (cc at)
found_behind n (x ∷ xs) after zero C are at = subst (IsBefore after) (same_Some x C at) are.0.is.behind
found_behind n (x ∷ xs) after (suc k) C are at = before_trans after x C are.0.is.behind (found_behind n xs x k C are.1 at)

pub found_ordered : (n : Net) (found : List ℕ) (after j k B C : ℕ) → AreFound n after found → j < k → slice_get found j ≡ Some B → slice_get found k ≡ Some C → IsBefore B C
found_ordered n [] after j k B C none lt at to = absurd (cc at)
found_ordered n (x ∷ xs) after j zero B C are lt at to = absurd (omega (arith, lt))
found_ordered n (x ∷ xs) after zero (suc k) B C are lt at to = subst (λ y. IsBefore y C) (same_Some x B at) (found_behind n xs x k C are.1 to)
found_ordered n (x ∷ xs) after (suc j) (suc k) B C are lt at to = found_ordered n xs x j k B C are.1 (omega (arith, lt)) at to
