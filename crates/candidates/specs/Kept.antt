-- What a search keeps of a net.
use Rattle.std.specs.Prelude.{◌≡◌, ℕ, ◌<◌, List, slice_index}
use Rattle.net_laws.specs.Candidates.{arc}
use Rattle.gadara_net.specs.declared.flow.Flow.{Flow}
use Rattle.gadara_net.specs.Flows.{IsFlow, flow_net}
use Rattle.gadara_net.specs.Graphs.{has_arc}
use Rattle.candidates.specs.Reached.{AreReversed}
use Rattle.candidates.specs.Components.{IsComponent}

-- the arcs of the flow's net, these the other way round, and the strong component of each resource
pub record AreKept (f : Flow) (leaving entering components : List ℕ) : Type 0 where
  pub flow : IsFlow f
  pub leaves : (r s : ℕ) → r < 64 → has_arc leaving r s ≡ arc (flow_net f) r s
  pub enters : AreReversed leaving entering
  pub component_of : (r : ℕ) → r < 64 → IsComponent (flow_net f) r (slice_index components r)
