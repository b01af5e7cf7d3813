use Rattle.gadara_net.specs.Flows.{flow_net}
use Rattle.coverage.proofs.First.{judged}
use Rattle.coverage.proofs.bad.has_line.Goals as goal

pub returns-clause-line : goal.returns-clause-line
returns-clause-line g c = judged (flow_net c.args.net.now) c.args.set c.first_line.result c.is_some.result c.is_some.ensures c.first_line.ensures.first
