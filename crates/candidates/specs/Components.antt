-- Strong components of hold-and-wait, and those that are too large.
use Rattle.std.specs.Prelude.{ℕ, ◌<◌, ◌≤◌, ◌^◌, ◌↔◌, IsTrue, count_ones}
use Rattle.net_laws.specs.Net.{Net}
use Rattle.net_laws.specs.Candidates.{InComponent, members}

-- the mask is the strong component of the resource
abbrev pub IsComponent : Net → ℕ → ℕ → Type 0
IsComponent n r C = (s : ℕ) → IsTrue (members C s) ↔ InComponent n r s

-- the strong component of the resource has at most 14 members
abbrev pub IsSmallAt : Net → ℕ → Type 0
IsSmallAt n r = (C : ℕ) → C < 2 ^ 64 → IsComponent n r C → count_ones C ≤ 14

-- each strong component has at most 14 members
abbrev pub HasSmallComponents : Net → Type 0
HasSmallComponents n = (r : ℕ) → r < n.resources → IsSmallAt n r

-- of the strong components of more than 14 members the one with the least member
pub record IsFirstLarge (n : Net) (C : ℕ) : Type 0 where
  pub below : C < 2 ^ 64
  pub least : ℕ
  pub named : least < n.resources
  pub component : IsComponent n least C
  pub large : 14 < count_ones C
  pub first : (r : ℕ) → r < least → IsSmallAt n r
