use Rattle.accounts.proofs.Going.{steps_go_along}
use Rattle.accounts.proofs.points.each_step_goes_along_edges.Goals as goal

pub returns : goal.returns
returns c = steps_go_along
