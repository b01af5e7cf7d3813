-- Rows of targets.
use Rattle.std.specs.Prelude.{◌≡◌, ℕ, zero, suc, Bool, false, ◌==◌, List, slice_index, IsTrue, Option, Some, None}
use Rattle.edges.specs.declared.EdgeOp.{EdgeOp}
use Rattle.edges.specs.Ops.{takes}
use Rattle.net_laws.specs.Candidates.{members}

-- the row of r has the target s
abbrev pub has_arc : List ℕ → ℕ → ℕ → Bool
has_arc rows r s = members (slice_index rows r) s

-- the resource is the one that is taken, or none is taken
abbrev pub IsTaken : EdgeOp → Option ℕ → Type 0
IsTaken op None = (s : ℕ) → takes op s ≡ false
IsTaken op (Some r) = (s : ℕ) → takes op s ≡ (r == s)

-- b is reached from a by so many arcs of the rows and one more
abbrev pub Leads : List ℕ → ℕ → ℕ → ℕ → Type 0
Leads rows a b zero = IsTrue (has_arc rows a b)
Leads rows a b (suc k) = (c : ℕ) × IsTrue (has_arc rows a c) × Leads rows c b k

-- b is reached from a by one or more arcs of the rows
abbrev pub IsReached : List ℕ → ℕ → ℕ → Type 0
IsReached rows a b = (k : ℕ) × Leads rows a b k
