-- Parts of a set with so many members, by their masks as numbers.
use Rattle.std.specs.Prelude.{◌≡◌, ℕ, ◌+◌, ◌<◌, ◌≤◌, count_ones}
use Rattle.place_sets.specs.Sets.{IsPartOf}
use Rattle.net_laws.specs.Candidates.{members}

-- a part of the room with so many members
pub record IsChoice (room size set : ℕ) : Type 0 where
  pub part : IsPartOf (members set) (members room)
  pub count : count_ones set ≡ size

-- no such part has a mask from a number on
abbrev pub HasNoChoice : ℕ → ℕ → ℕ → Type 0
HasNoChoice room size from = (set : ℕ) → IsChoice room size set → set < from

-- of these parts the one with the least mask from a number on
pub record IsLeastChoice (room size from set : ℕ) : Type 0 where
  pub choice : IsChoice room size set
  pub from_here : from ≤ set
  pub least : (other : ℕ) → IsChoice room size other → from ≤ other → set ≤ other

-- the set has one member more, which the room has; and no part of the room with more members than it had lies between
pub record IsOneMore (room set more : ℕ) : Type 0 where
  pub part : IsPartOf (members more) (members room)
  pub size : count_ones more ≡ count_ones set + 1
  pub above : set < more
  pub least : (size other : ℕ) → IsChoice room size other → count_ones set < size → set ≤ other → more ≤ other

-- a part of the room with at most as many members, and no part with as many lies between
pub record IsStep (room set next : ℕ) : Type 0 where
  pub part : IsPartOf (members next) (members room)
  pub few : count_ones next ≤ count_ones set
  pub above : set < next
  pub least : (other : ℕ) → IsChoice room (count_ones set) other → set < other → next ≤ other
