-- A net of threads whose counts are the accounts of its edges, as a net says it.
use Rattle.std.specs.Prelude.{◌≡◌, ◌+◌, ◌≤◌, ◌<◌, ℕ, List, [], Some, map, slice_get}
use Rattle.std.specs.List.{range_with_len}
use Rattle.edges.specs.declared.Edge.{Edge}
use Rattle.edges.specs.Ops.{takes, gives}
use Rattle.net_laws.specs.Net.{Net, HasEdge, one}
use Rattle.outlines.specs.Outline.{Thread}
use Rattle.outlines.specs.Whole.{ThreadsName, ThreadsAreWhole}
use Rattle.outlines.specs.Rows.{Joining, row_at}
use Rattle.outlines.specs.Points.{all_rows}
use Rattle.outline_laws.specs.Leading.{first_point}
use Rattle.outline_laws.specs.Nets.{IsNetOf}
use Rattle.held_counts.specs.Nets.{IsHeldNetOf}

-- what is held at a point, of each resource in turn
abbrev pub held_list : Net → ℕ → List ℕ
held_list n p = map (n.held p) (range_with_len 0 n.resources)

-- what is held is the account of the edges, a mutex is held once at most, and nothing is held where a thread begins, at joins,
-- and where a thread has ended
pub record HasAccounts (n : Net) (ths : List Thread) : Type 0 where
  pub accounts : (e : Edge) (r : ℕ) → HasEdge n e → n.held e.to r + one (gives e.op r) ≡ n.held e.from r + one (takes e.op r)
  pub once : (p r : ℕ) → p < n.points → r < n.mutexes → n.held p r ≤ 1
  pub beyond : (p r : ℕ) → p < n.points → n.resources ≤ r → n.held p r ≡ 0
  pub begins : (u : ℕ) (th : Thread) (r : ℕ) → slice_get ths u ≡ Some th → n.held (first_point 0 ths 0 u) r ≡ 0
  pub joins : (p r : ℕ) → p < n.points → (row_at (all_rows 0 ths 0) p).kind ≡ Joining → n.held p r ≡ 0
  pub ends : (p r : ℕ) → p < n.points → (row_at (all_rows 0 ths 0) p).ways ≡ [] → n.held p r ≡ 0

-- then the walk refuses nothing, and its counts are what is held
abbrev pub AccountsMakeHeldNets : Type 0
AccountsMakeHeldNets = (n : Net) (ths : List Thread) → IsNetOf n ths → ThreadsName n.resources ths → ThreadsAreWhole n.mutexes ths →
    HasAccounts n ths → IsHeldNetOf n ths (held_list n)
