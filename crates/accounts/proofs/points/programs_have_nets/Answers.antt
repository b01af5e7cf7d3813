use Rattle.accounts.proofs.Outlined.{programs_have, nets_have_resources}
use Rattle.accounts.proofs.points.programs_have_nets.Goals as goal

pub returns-clause-nets : goal.returns-clause-nets
returns-clause-nets c = programs_have

pub returns-clause-resources : goal.returns-clause-resources
returns-clause-resources c = nets_have_resources
