-- The net of threads with the counts of the walk.
use Rattle.std.specs.Prelude.{◌≡◌, ◌≤◌, ◌<◌, ℕ, List, None, length, slice_index, replicate}
use Rattle.net_laws.specs.Net.{Net, IsNet}
use Rattle.weight_laws.specs.Flow.{Path}
use Rattle.outlines.specs.Outline.{Thread}
use Rattle.outlines.specs.Whole.{ThreadsName, ThreadsAreWhole}
use Rattle.outlines.specs.Rows.{Joining, row_at}
use Rattle.outlines.specs.Points.{all_rows}
use Rattle.outline_laws.specs.Nets.{IsNetOf}
use Rattle.held_counts.specs.Counts.{all_counts}
use Rattle.held_counts.specs.Refusals.{refused_threads}
use Rattle.held_counts.specs.Held.{HasCounts, IsKept, BeginsWith}

-- no token of any resource
abbrev pub nothing_of : Net → List ℕ
nothing_of n = replicate n.resources 0

-- the net of threads, whose walk refuses nothing; what is held at its points are the counts of the walk
pub record IsHeldNetOf (n : Net) (ths : List Thread) (counts : ℕ → List ℕ) : Type 0 where
  pub net : IsNetOf n ths
  pub named : ThreadsName n.resources ths
  pub whole : ThreadsAreWhole n.mutexes ths
  pub accepted : refused_threads n.mutexes (nothing_of n) ths ≡ None
  pub counted : HasCounts counts 0 (all_counts (nothing_of n) 0 ths)
  pub held : (p r : ℕ) → p < n.points → n.held p r ≡ slice_index (counts p) r

-- each resource has tokens
abbrev pub HasTokens : Net → Type 0
HasTokens n = (r : ℕ) → r < n.resources → 0 < n.tokens r

abbrev pub HeldNetsAreNets : Type 0
HeldNetsAreNets = (n : Net) (ths : List Thread) (counts : ℕ → List ℕ) → IsHeldNetOf n ths counts → HasTokens n → IsNet n

-- no point holds a mutex twice
abbrev pub MutexesAreHeldOnce : Type 0
MutexesAreHeldOnce = (n : Net) (ths : List Thread) (counts : ℕ → List ℕ) → IsHeldNetOf n ths counts →
    (p r : ℕ) → p < n.points → r < n.mutexes → n.held p r ≤ 1

-- each point has a number for each resource
abbrev pub CountsAreFull : Type 0
CountsAreFull = (n : Net) (ths : List Thread) (counts : ℕ → List ℕ) → IsHeldNetOf n ths counts →
    (p : ℕ) → p < n.points → length (counts p) ≡ n.resources

-- from each point there is a path to where nothing is held
abbrev pub PathsLetGo : Type 0
PathsLetGo = (n : Net) (ths : List Thread) (counts : ℕ → List ℕ) → IsHeldNetOf n ths counts →
    (p : ℕ) → p < n.points → (k q : ℕ) × Path n p q k × ((r : ℕ) → n.held q r ≡ 0)

-- nothing is held at a join
abbrev pub JoinsHoldNothing : Type 0
JoinsHoldNothing = (n : Net) (ths : List Thread) (counts : ℕ → List ℕ) → IsHeldNetOf n ths counts →
    (p : ℕ) → p < n.points → (row_at (all_rows 0 ths 0) p).kind ≡ Joining → (r : ℕ) → n.held p r ≡ 0

-- counts that are kept at each point of the same threads are equal
abbrev pub CountsAreOne : Type 0
CountsAreOne = (m : ℕ) (nothing : List ℕ) (ths : List Thread) (left right : ℕ → List ℕ) →
    ((i : ℕ) → i < length (all_rows 0 ths 0) → IsKept m nothing (row_at (all_rows 0 ths 0)) left i) → BeginsWith nothing left ths →
    ((i : ℕ) → i < length (all_rows 0 ths 0) → IsKept m nothing (row_at (all_rows 0 ths 0)) right i) → BeginsWith nothing right ths →
    (i : ℕ) → i < length (all_rows 0 ths 0) → left i ≡ right i
