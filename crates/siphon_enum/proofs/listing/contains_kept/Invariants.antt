use Rattle.std.proofs.Common.{◌≡◌, ℕ, ◌<◌, Some}
use Rattle.std.specs.Prelude.{slice_get}
use Rattle.net_laws.specs.Siphons.{LiesIn}
use Rattle.net_laws.specs.Candidates.{members}
use Rattle.gadara_net.specs.Flows.{flow_net}
use Rattle.siphon_enum.proofs.listing.contains_kept.Given as goal

abbrev pub invariant-loop-k : goal.invariant-loop-k
invariant-loop-k g l = (j Q : ℕ) → j < l.k → slice_get l.sets j ≡ Some Q → LiesIn (flow_net l.net) (members Q) (members l.resources) → ⊥
