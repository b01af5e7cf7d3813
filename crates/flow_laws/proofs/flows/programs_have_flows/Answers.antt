use Rattle.flow_laws.proofs.One.{programs_have}
use Rattle.flow_laws.proofs.flows.programs_have_flows.Goals as goal

pub returns : goal.returns
returns c = programs_have
