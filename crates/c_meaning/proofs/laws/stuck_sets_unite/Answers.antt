use Rattle.c_meaning.proofs.Unions.{blocked_for_one, stuck_sets_unite}
use Rattle.c_meaning.proofs.laws.stuck_sets_unite.Goals as goal

pub returns-clause-blocked : goal.returns-clause-blocked
returns-clause-blocked c = blocked_for_one

pub returns-clause-union : goal.returns-clause-union
returns-clause-union c = stuck_sets_unite
