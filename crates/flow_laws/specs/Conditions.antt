-- What is asked of points and edges, to look for siphons in their net and to check certificates for it.
use Rattle.std.specs.Prelude.{ℕ, ◌*◌, ◌<◌, ◌≤◌, length}
use Rattle.c_canonical.specs.ShapedPrograms.{ShapedProgram}
use Rattle.c_rules.specs.Formed.{Formed}
use Rattle.c_tree.specs.declared.program.Mode.{Mode}
use Rattle.c_tree.specs.Lined.{Program, bare_program}
use Rattle.c_tree.specs.Numbering.{mutex_count}
use Rattle.net_laws.specs.Net.{IsNet, IsShaped}
use Rattle.net_laws.specs.Shown.{HaveCounts}
use Rattle.outline_pieces.specs.declared.flow_parts.FlowParts.{FlowParts}
use Rattle.gadara_net.specs.declared.flow.Flow.{Flow}
use Rattle.gadara_net.specs.Flows as net
use Rattle.flow_graph.specs.Flow.{IsFlow}
use Rattle.flow_laws.specs.Nets.{tokens_in, net_in}

-- what is held is the account of the edges, and each resource has tokens
abbrev pub NetsAreNets : Type 0
NetsAreNets = (p : Program) (mode : Mode) (flow : FlowParts) → Formed p mode → ShapedProgram (bare_program p) → IsFlow p flow → IsNet (net_in p flow)

-- edges lead between points, and points are of threads
abbrev pub NetsAreShaped : Type 0
NetsAreShaped = (p : Program) (mode : Mode) (flow : FlowParts) → Formed p mode → ShapedProgram (bare_program p) → IsFlow p flow → IsShaped (net_in p flow)

-- no point holds a mutex twice
abbrev pub MutexesAreHeldOnce : Type 0
MutexesAreHeldOnce =
    (p : Program) (mode : Mode) (flow : FlowParts) → Formed p mode → ShapedProgram (bare_program p) → IsFlow p flow
    → (k r : ℕ) → k < length flow.points → r < mutex_count (bare_program p) → (net_in p flow).held k r ≤ 1

-- each point has a count for each resource
abbrev pub PointsHaveCounts : Type 0
PointsHaveCounts =
    (p : Program) (mode : Mode) (flow : FlowParts) → Formed p mode → ShapedProgram (bare_program p) → IsFlow p flow → HaveCounts flow.points (length (tokens_in p))

-- 4,096 points and 64 resources at most
abbrev pub PlacesAreFew : Type 0
PlacesAreFew =
    (p : Program) (mode : Mode) (flow : FlowParts) → Formed p mode → ShapedProgram (bare_program p) → IsFlow p flow → (length flow.points ≤ 4096) × (length (tokens_in p) ≤ 64)

-- no more than two edges leave a point
abbrev pub EdgesAreFew : Type 0
EdgesAreFew =
    (p : Program) (mode : Mode) (flow : FlowParts) → Formed p mode → ShapedProgram (bare_program p) → IsFlow p flow → length flow.edges ≤ 2 * length flow.points

-- the points and edges with the program's resources, from which a net is made
abbrev pub whole_flow : Program → FlowParts → Flow
whole_flow p flow = record {
  threads = flow.threads;
  mutexes = mutex_count (bare_program p);
  tokens = tokens_in p;
  points = flow.points;
  edges = flow.edges;
}

-- so a net can be made from them
abbrev pub FlowsMakeNets : Type 0
FlowsMakeNets = (p : Program) (mode : Mode) (flow : FlowParts) → Formed p mode → ShapedProgram (bare_program p) → IsFlow p flow → net.IsFlow (whole_flow p flow)
