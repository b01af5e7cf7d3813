use Rattle.weight_laws.proofs.Moving.{entry_blocking, entry_own, entry_straight}
use Rattle.weight_laws.proofs.moved.entry_weights_are_of_locks.Goals as goal

pub returns-clause-blocking : goal.returns-clause-blocking
returns-clause-blocking c = entry_blocking

pub returns-clause-free : goal.returns-clause-free
returns-clause-free c = entry_own

pub returns-clause-straight : goal.returns-clause-straight
returns-clause-straight c = entry_straight
