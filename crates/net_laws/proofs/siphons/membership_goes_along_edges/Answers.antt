use Rattle.net_laws.proofs.Least.{along, onward}
use Rattle.net_laws.proofs.siphons.membership_goes_along_edges.Goals as goal

pub returns-clause-back : goal.returns-clause-back
returns-clause-back c = along

pub returns-clause-onward : goal.returns-clause-onward
returns-clause-onward c = onward
