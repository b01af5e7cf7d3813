use Rattle.run_laws.proofs.Runs.{run_on}
use Rattle.run_laws.proofs.runs_go_on.Goals as goal

pub returns : goal.returns
returns g c = run_on g.S.System.step
