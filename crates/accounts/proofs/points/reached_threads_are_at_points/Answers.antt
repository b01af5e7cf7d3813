use Rattle.accounts.proofs.Reaching.{reached_at_points}
use Rattle.accounts.proofs.points.reached_threads_are_at_points.Goals as goal

pub returns : goal.returns
returns c = reached_at_points
