use Rattle.std.proofs.Common.{ℕ, ◌<◌}
use Rattle.net_laws.specs.Candidates.{members}
use Rattle.net_laws.specs.Lines.{LineHolds}
use Rattle.gadara_net.specs.Flows.{flow_net}
use Rattle.gadara_net.specs.Measured.{kind_of}
use Rattle.gadara_net.proofs.lines.first_of.Given as goal

abbrev pub invariant-loop-number : goal.invariant-loop-number
invariant-loop-number l = (j : ℕ) → j < l.number → LineHolds (flow_net l.flow) (members l.resources) (kind_of l.form j) → ⊥
