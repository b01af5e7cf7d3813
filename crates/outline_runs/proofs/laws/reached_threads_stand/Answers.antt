use Rattle.outline_runs.proofs.Reaching.{reached_stand}
use Rattle.outline_runs.proofs.laws.reached_threads_stand.Goals as goal

pub returns : goal.returns
returns c = reached_stand
