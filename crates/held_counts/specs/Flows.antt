-- That the net of threads is shaped, and is a flow where its points fit the tokens.
use Rattle.std.specs.Prelude.{◌≡◌, ◌≤◌, ◌<◌, ℕ, List}
use Rattle.net_laws.specs.Net.{Net, IsShaped, IsFitting}
use Rattle.weight_laws.specs.Flow.{IsFlow}
use Rattle.outlines.specs.Outline.{Thread}
use Rattle.held_counts.specs.Nets.{IsHeldNetOf}

-- each resource has tokens, and a mutex one; a mask has a bit for each
pub record HasResources (n : Net) : Type 0 where
  pub filled : (r : ℕ) → r < n.resources → 0 < n.tokens r
  pub kinds : n.mutexes ≤ n.resources
  pub single : (r : ℕ) → r < n.mutexes → n.tokens r ≡ 1
  pub few : n.resources ≤ 64

abbrev pub HeldNetsAreShaped : Type 0
HeldNetsAreShaped = (n : Net) (ths : List Thread) (counts : ℕ → List ℕ) → IsHeldNetOf n ths counts → HasResources n → IsShaped n

-- where all resources are mutexes
abbrev pub MutexesFit : Type 0
MutexesFit = (n : Net) (ths : List Thread) (counts : ℕ → List ℕ) → IsHeldNetOf n ths counts → HasResources n → n.mutexes ≡ n.resources → IsFitting n

abbrev pub HeldNetsAreFlows : Type 0
HeldNetsAreFlows = (n : Net) (ths : List Thread) (counts : ℕ → List ℕ) → IsHeldNetOf n ths counts → HasResources n → IsFitting n → IsFlow n
