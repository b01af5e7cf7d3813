-- What points hold of a set outside its least siphon.
use Rattle.std.specs.Prelude.{◌≡◌, ℕ, ◌<◌, Bool, List, length, slice_get, Some, if◌then◌else◌}
use Rattle.net_laws.specs.Net.{Net}
use Rattle.net_laws.specs.Lines.{held_of}

-- for each point what it holds of R, or 0 where it is marked
pub record AreSums (n : Net) (R marks : ℕ → Bool) (sums : List ℕ) : Type 0 where
  pub each : length sums ≡ n.points
  pub sum : (p : ℕ) → p < n.points → slice_get sums p ≡ Some (if marks p then 0 else held_of n R p)
