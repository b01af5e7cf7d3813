-- Sets of resources as masks.
use Rattle.std.specs.Prelude.{ℕ, IsTrue}
use Rattle.net_laws.specs.Candidates.{members}

-- some resource is in the set
abbrev pub HasMembers : ℕ → Type 0
HasMembers mask = (r : ℕ) × IsTrue (members mask r)
