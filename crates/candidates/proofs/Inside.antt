-- A candidate lies in the strong component of each of its members.
use Rattle.std.proofs.Common.{ℕ, zero, suc, Bool, true, refl, inr}
use Rattle.std.specs.Prelude.{IsTrue}
use Rattle.net_laws.specs.Net.{Net}
use Rattle.net_laws.specs.Candidates.{Reaches, IsCandidate, InComponent}

-- what is reached through members is reached
pub reaches_any : (n : Net) (C : ℕ → Bool) (k a b : ℕ) → Reaches n C a b k → Reaches n (λ _. true) a b k
reaches_any n C zero a b r = r
reaches_any n C (suc k) a b r = (r.0, refl, r.2, reaches_any n C k r.0 b r.3)

pub in_component : (n : Net) (C : ℕ → Bool) → IsCandidate n C → (r s : ℕ) → IsTrue (C r) → IsTrue (C s) → InComponent n r s
in_component n C is r s in_r in_s =
    let there = is.joined r s in_r in_s in
    let back = is.joined s r in_s in_r in
    inr ((there.0, reaches_any n C there.0 r s there.1), (back.0, reaches_any n C back.0 s r back.1))
