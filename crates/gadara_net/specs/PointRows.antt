-- What is noted of each point.
use Rattle.std.specs.Prelude.{◌≡◌, ℕ, ◌<◌, Bool, List, length, nat_lt, slice_get, slice_index, Some}
use Rattle.net_laws.specs.Net.{Net}
use Rattle.net_laws.specs.Candidates.{members}
use Rattle.weight_laws.specs.Flow.{tries}
use Rattle.gadara_net.specs.Flows.{flow_net}
use Rattle.gadara_net.specs.declared.flow.Flow.{Flow}
use Rattle.gadara_net.specs.declared.point_rows.PointRows.{PointRows}

-- for each point, whether a lock is tried there
pub record AreTried (n : Net) (tried : List Bool) : Type 0 where
  pub each : length tried ≡ n.points
  pub exact : (p : ℕ) → p < n.points → slice_get tried p ≡ Some (tries n p)

-- for each point, the set of the resources of which a token is held there
pub record AreHeld (n : Net) (sets : List ℕ) : Type 0 where
  pub each : length sets ≡ n.points
  pub exact : (p r : ℕ) → p < n.points → members (slice_index sets p) r ≡ nat_lt 0 (n.held p r)

-- both of a flow
pub record AreNoted (rows : PointRows) (f : Flow) : Type 0 where
  pub tried : AreTried (flow_net f) rows.tried.items
  pub held : AreHeld (flow_net f) rows.held.items
