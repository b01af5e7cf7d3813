use Rattle.held_counts.proofs.Along.{paths_let_go, joins_let_go}
use Rattle.held_counts.proofs.held_nets_let_go.Goals as goal

pub returns-clause-ends : goal.returns-clause-ends
returns-clause-ends c = paths_let_go

pub returns-clause-joins : goal.returns-clause-joins
returns-clause-joins c = joins_let_go
