-- What a flow is, and its net.
use Rattle.std.specs.Prelude.{ℕ, ◌+◌, ◌<◌, ◌≤◌, ◌^◌, List, length, map, IsTrue}
use Rattle.edges.specs.declared.Edge.{Edge}
use Rattle.net_laws.specs.Net.{Net, IsNet, IsShaped}
use Rattle.net_laws.specs.Candidates.{members}
use Rattle.net_laws.specs.Shown.{net_of, HaveCounts}
use Rattle.gadara_net.specs.declared.flow.Flow.{Flow}

-- the net of a flow
abbrev pub flow_net : Flow → Net
flow_net f = net_of f.threads f.mutexes f.tokens f.points f.edges

-- what a flow promises: its net is one, no point holds a mutex twice, and its numbers are small
pub record IsFlow (f : Flow) : Type 0 where
  pub net : IsNet (flow_net f)
  pub shaped : IsShaped (flow_net f)
  pub once : (p r : ℕ) → p < length f.points → r < f.mutexes → (flow_net f).held p r ≤ 1
  pub counts : HaveCounts f.points (length f.tokens)
  pub few_places : length f.points + length f.tokens < 2 ^ 32
  pub few_edges : length f.edges < 2 ^ 32

-- the points that edges lead to
abbrev pub targets_of : List Edge → List ℕ
targets_of edges = map (λ e. e.to) edges

-- a mask names resources of the flow
abbrev pub NamesResources : Flow → ℕ → Type 0
NamesResources f mask = (r : ℕ) → IsTrue (members mask r) → r < length f.tokens
