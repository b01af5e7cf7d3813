-- Numbers that are the weights of points.
use Rattle.std.specs.Prelude.{◌≡◌, ℕ, Bool}
use Rattle.net_laws.specs.Net.{Net}
use Rattle.weight_laws.specs.Weights.{IsMarked, weight}

-- w is at each point its weight for R, where these are the points of the least siphon of R
pub record AreWeights (n : Net) (R : ℕ → Bool) (w : ℕ → ℕ) : Type 0 where
  pub marks : ℕ → Bool
  pub marked : IsMarked n R marks
  pub exact : (p : ℕ) → w p ≡ weight n R marks p
