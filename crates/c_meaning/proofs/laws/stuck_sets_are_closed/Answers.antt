use Rattle.c_meaning.proofs.Closing.{blocked_is_computed, stuck_is_closed}
use Rattle.c_meaning.proofs.laws.stuck_sets_are_closed.Goals as goal

pub returns-clause-computed : goal.returns-clause-computed
returns-clause-computed c = blocked_is_computed

pub returns-clause-closed : goal.returns-clause-closed
returns-clause-closed c = stuck_is_closed
