use Rattle.weight_laws.proofs.Counts.{accounts, counts}
use Rattle.weight_laws.proofs.inserted.monitors_are_held_as_weights_are_moved.Goals as goal

pub returns-clause-accounts : goal.returns-clause-accounts
returns-clause-accounts c = accounts

pub returns-clause-counts : goal.returns-clause-counts
returns-clause-counts c = counts
