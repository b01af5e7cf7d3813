use Rattle.outline_laws.proofs.Out.{points_reach_end}
use Rattle.outline_laws.proofs.paths.points_reach_the_end.Goals as goal

pub returns : goal.returns
returns c = points_reach_end
