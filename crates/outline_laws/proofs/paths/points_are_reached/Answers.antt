use Rattle.outline_laws.proofs.Reach.{points_are_reached}
use Rattle.outline_laws.proofs.paths.points_are_reached.Goals as goal

pub returns : goal.returns
returns c = points_are_reached
