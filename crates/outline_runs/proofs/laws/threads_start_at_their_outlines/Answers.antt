use Rattle.outline_runs.proofs.Starts.{threads_start}
use Rattle.outline_runs.proofs.laws.threads_start_at_their_outlines.Goals as goal

pub returns : goal.returns
returns c = threads_start
