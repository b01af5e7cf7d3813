-- What is asked of an edge, a point and the tokens of a flow.
use Rattle.std.specs.Prelude.{◌≡◌, ℕ, ◌+◌, ◌<◌, ◌≤◌, ◌^◌, List, IsTrue, length, slice_get, slice_index, Some}
use Rattle.edges.specs.declared.Edge.{Edge}
use Rattle.edges.specs.declared.EdgeOp.{EdgeOp}
use Rattle.edges.specs.declared.Point.{Point}
use Rattle.edges.specs.Ops.{takes, blocks, gives}
use Rattle.gadara_net.specs.declared.flow.Flow.{Flow}
use Rattle.gadara_net.specs.Flows.{flow_net}
use Rattle.net_laws.specs.Net.{Net, HasEdge, one}

-- what is taken or given is one of so many resources
pub record IsNamed (op : EdgeOp) (resources : ℕ) : Type 0 where
  pub taken : (r : ℕ) → IsTrue (takes op r) → r < resources
  pub given : (r : ℕ) → IsTrue (gives op r) → r < resources

-- each edge that leaves the same point is equal to this one
abbrev pub IsOnlyEdge : List Edge → Edge → Type 0
IsOnlyEdge edges e = (k : ℕ) (f : Edge) → slice_get edges k ≡ Some f → f.from ≡ e.from → f ≡ e

-- so it is where a thread may be blocked at the edge
abbrev pub IsSole : List Edge → Edge → Type 0
IsSole edges e = (r : ℕ) → IsTrue (blocks e.op r) → IsOnlyEdge edges e

-- an edge leads between points of the net, and what is held behind it is the account
pub record IsEdgeOf (n : Net) (e : Edge) : Type 0 where
  pub leads : (e.from < n.points) × (e.to < n.points)
  pub named : IsNamed e.op n.resources
  pub accounts : (r : ℕ) → n.held e.to r + one (gives e.op r) ≡ n.held e.from r + one (takes e.op r)
  pub sole : IsSole n.edges e

-- the first of these counts are at most 1
abbrev pub AreAtMostOne : List ℕ → ℕ → Type 0
AreAtMostOne counts first = (r : ℕ) → r < first → slice_index counts r ≤ 1

-- a point is of one of the threads, has a count for each resource, and holds no mutex twice
pub record IsPointOf (p : Point) (threads mutexes resources : ℕ) : Type 0 where
  pub thread : p.thread < threads
  pub counts : length p.held ≡ resources
  pub once : AreAtMostOne p.held mutexes

-- each resource has tokens, and each mutex one
pub record AreTokens (tokens : List ℕ) (mutexes : ℕ) : Type 0 where
  pub filled : (r : ℕ) → r < length tokens → 0 < slice_index tokens r
  pub single : (r : ℕ) → r < length tokens → r < mutexes → slice_index tokens r ≡ 1

-- the numbers of resources, points and edges are small
pub record IsSmall (f : Flow) : Type 0 where
  pub kinds : f.mutexes ≤ length f.tokens
  pub few : length f.tokens ≤ 64
  pub few_places : length f.points + length f.tokens < 2 ^ 32
  pub few_edges : length f.edges < 2 ^ 32

abbrev pub ArePoints : Flow → Type 0
ArePoints f = (k : ℕ) (p : Point) → slice_get f.points k ≡ Some p → IsPointOf p f.threads f.mutexes (length f.tokens)

-- the resources are few and have tokens
pub record AreResources (f : Flow) : Type 0 where
  pub small : IsSmall f
  pub tokens : AreTokens f.tokens f.mutexes

pub record ArePlaces (f : Flow) : Type 0 where
  pub resources : AreResources f
  pub points : ArePoints f

abbrev pub AreEdges : Flow → Type 0
AreEdges f = (e : Edge) → HasEdge (flow_net f) e → IsEdgeOf (flow_net f) e
