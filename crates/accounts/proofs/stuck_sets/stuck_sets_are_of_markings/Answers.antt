use Rattle.accounts.proofs.Stuck.{blocked_marked, stuck_marked}
use Rattle.accounts.proofs.stuck_sets.stuck_sets_are_of_markings.Goals as goal

pub returns-clause-blocked : goal.returns-clause-blocked
returns-clause-blocked c = blocked_marked

pub returns-clause-stuck : goal.returns-clause-stuck
returns-clause-stuck c = stuck_marked
