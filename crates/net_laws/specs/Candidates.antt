-- Who holds what and takes what: circles of resources, and those whose least siphons hold no other's.
use Rattle.std.specs.Prelude.{◌≡◌, ℕ, zero, suc, ◌<◌, ◌^◌, Bool, true, ◌&&◌, ◌==◌, nat_lt, IsTrue, ◌⊎◌}
use Rattle.std.specs.List.{list_any}
use Rattle.std.specs.Int.{bit_at}
use Rattle.edges.specs.Ops.{takes}
use Rattle.net_laws.specs.Net.{Net}
use Rattle.net_laws.specs.Siphons.{LiesIn}

-- an arc of hold-and-wait: some point holds r, and an edge from it takes s
abbrev pub arc : Net → ℕ → ℕ → Bool
arc n r s = list_any (λ e. nat_lt 0 (n.held e.from r) && takes e.op s) n.edges

-- b is reached from a by so many arcs and one more, through members of C
abbrev pub Reaches : Net → (ℕ → Bool) → ℕ → ℕ → ℕ → Type 0
Reaches n C a b zero = IsTrue (arc n a b)
Reaches n C a b (suc k) = (c : ℕ) × IsTrue (C c) × IsTrue (arc n a c) × Reaches n C c b k

-- a nonempty set of resources of which each is reached from each, also from itself, by arcs inside the set
pub record IsCandidate (n : Net) (C : ℕ → Bool) : Type 0 where
  pub some : (r : ℕ) × IsTrue (C r)
  pub named : (r : ℕ) → IsTrue (C r) → r < n.resources
  pub joined : (a b : ℕ) → IsTrue (C a) → IsTrue (C b) → (k : ℕ) × Reaches n C a b k

-- b is reached from a by one or more arcs
abbrev pub Joins : Net → ℕ → ℕ → Type 0
Joins n a b = (k : ℕ) × Reaches n (λ _. true) a b k

-- s is in the strong component of r: it is r, or each is reached from the other
abbrev pub InComponent : Net → ℕ → ℕ → Type 0
InComponent n r s = (r ≡ s) ⊎ (Joins n r s × Joins n s r)

-- the set that a mask names
abbrev pub members : ℕ → ℕ → Bool
members mask r = bit_at mask r == 1

-- a candidate such that no other one's least siphon lies in its own
pub record IsMinimal (n : Net) (C : ℕ) : Type 0 where
  pub below : C < 2 ^ 64
  pub candidate : IsCandidate n (members C)
  pub alone : (Q : ℕ) → Q < 2 ^ 64 → IsCandidate n (members Q) → LiesIn n (members Q) (members C) → Q ≡ C
