use Rattle.net_laws.proofs.Least.{holds, takes_first}
use Rattle.net_laws.proofs.siphons.points_of_least_siphons_hold_members.Goals as goal

pub returns-clause-holds : goal.returns-clause-holds
returns-clause-holds c n R p net l = holds n net R l.0 p l.1

pub returns-clause-takers : goal.returns-clause-takers
returns-clause-takers c = takes_first
