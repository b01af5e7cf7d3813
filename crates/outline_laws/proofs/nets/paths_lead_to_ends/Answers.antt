use Rattle.outline_laws.proofs.Placed.{paths_end}
use Rattle.outline_laws.proofs.nets.paths_lead_to_ends.Goals as goal

pub returns : goal.returns
returns c = paths_end
