use Rattle.accounts.proofs.Stuck.{stuck_wanted, stuck_no_thread, stuck_no_token, stuck_candidates}
use Rattle.accounts.proofs.stuck_sets.stuck_sets_empty_siphons.Goals as goal

pub returns-clause-resources : goal.returns-clause-resources
returns-clause-resources c = stuck_wanted

pub returns-clause-no_thread : goal.returns-clause-no_thread
returns-clause-no_thread c = stuck_no_thread

pub returns-clause-no_token : goal.returns-clause-no_token
returns-clause-no_token c = stuck_no_token

pub returns-clause-candidate : goal.returns-clause-candidate
returns-clause-candidate c = stuck_candidates
