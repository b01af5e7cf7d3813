-- What is reached by arcs that are kept as rows of the ends of arcs.
use Rattle.std.specs.Prelude.{◌≡◌, ℕ, zero, suc, ◌<◌, Bool, true, ◌⊎◌, ◌↔◌, List, IsTrue}
use Rattle.net_laws.specs.Candidates.{members}
use Rattle.gadara_net.specs.Graphs.{has_arc}
use Rattle.gadara_net.specs.Sets.{HasMembers}

-- b is reached from a by so many arcs and one more, through members of C
abbrev pub Leads : List ℕ → (ℕ → Bool) → ℕ → ℕ → ℕ → Type 0
Leads rows C a b zero = IsTrue (has_arc rows a b)
Leads rows C a b (suc k) = (c : ℕ) × IsTrue (C c) × IsTrue (has_arc rows a c) × Leads rows C c b k

-- b is reached from a by one or more arcs through members of C
abbrev pub IsLed : List ℕ → (ℕ → Bool) → ℕ → ℕ → Type 0
IsLed rows C a b = (k : ℕ) × Leads rows C a b k

-- the one rows have the arcs of the other ones the other way round
abbrev pub AreReversed : List ℕ → List ℕ → Type 0
AreReversed rows back = (r s : ℕ) → s < 64 → IsTrue (has_arc back s r) ↔ IsTrue (has_arc rows r s)

-- b is a, or each is reached from the other by arcs
abbrev pub IsMutual : List ℕ → ℕ → ℕ → Type 0
IsMutual rows a b = (a ≡ b) ⊎ (IsLed rows (λ _. true) a b × IsLed rows (λ _. true) b a)

-- a nonempty set of which each is reached from each, also from itself, by arcs inside the set
pub record IsCircular (rows : List ℕ) (C : ℕ) : Type 0 where
  pub some : HasMembers C
  pub joined : (a b : ℕ) → IsTrue (members C a) → IsTrue (members C b) → IsLed rows (members C) a b
