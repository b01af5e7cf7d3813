use Rattle.outline_runs.proofs.Reaching.{steps_move}
use Rattle.outline_runs.proofs.laws.each_step_moves_threads.Goals as goal

pub returns : goal.returns
returns c = steps_move
