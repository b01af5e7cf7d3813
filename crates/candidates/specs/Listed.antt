-- The sets that a search gives.
use Rattle.std.specs.Prelude.{ℕ, List, [], ◌∷◌}
use Rattle.net_laws.specs.Net.{Net}
use Rattle.candidates.specs.Next.{IsLast, IsNext}

-- these sets come one after the other behind a set, and then no more
abbrev pub AreFound : Net → ℕ → List ℕ → Type 0
AreFound n after [] = IsLast n after
AreFound n after (C ∷ rest) = IsNext n after C × AreFound n C rest
