use Rattle.flow_laws.proofs.Shown.{flows_nets}
use Rattle.flow_laws.proofs.nets.flows_are_nets.Goals as goal

pub returns : goal.returns
returns c = flows_nets
