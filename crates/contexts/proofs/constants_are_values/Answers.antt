use Rattle.contexts.proofs.Runs.{constant_runs, resolves_runs}
use Rattle.contexts.proofs.constants_are_values.Goals as goal

pub returns-clause-values : goal.returns-clause-values
returns-clause-values c = constant_runs

pub returns-clause-mutexes : goal.returns-clause-mutexes
returns-clause-mutexes c = resolves_runs
