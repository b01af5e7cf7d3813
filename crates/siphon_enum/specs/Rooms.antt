-- Rooms for minimal sets.
use Rattle.std.specs.Prelude.{◌≡◌, ℕ, suc, ◌≤◌, List, length}
use Rattle.siphon_enum.specs.Rows.{HaveSize}

-- what is seen of a room: how many places its nets have, how many sets it holds at most, and those that it holds
pub record Room : Type 0 where
  pub places : ℕ
  pub limit : ℕ
  pub sets : List ℕ

-- what a room has: space for the sets, a row for the least siphon of each and of one more, a row that bounds these, and
-- what a net asks for its points
pub record HasSpace {Row : Type 0} (bound : Row → ℕ) (room : Room) (capacity : ℕ) (siphons : List Row) (union : Row) (points : ℕ) : Type 0 where
  pub small : room.limit ≤ 512
  pub few : length room.sets ≤ room.limit
  pub space : room.limit ≤ capacity
  pub rows : length siphons ≡ suc room.limit
  pub sizes : HaveSize bound room.places siphons
  pub whole : bound union ≡ room.places
  pub suffices : room.places ≤ points
