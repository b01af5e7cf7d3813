use Rattle.net_laws.proofs.Stuck.{wanted, wanted-is, no_thread, stuck_candidate}
use Rattle.net_laws.proofs.stuck_sets.stuck_sets_empty_siphons.Goals as goal

pub returns-clause-resources : goal.returns-clause-resources
returns-clause-resources c n m T marking = (wanted n m T, wanted-is n m T marking)

pub returns-clause-no_thread : goal.returns-clause-no_thread
returns-clause-no_thread c n m T R net marking stuck wants = no_thread n m T R net stuck wants

pub returns-clause-candidate : goal.returns-clause-candidate
returns-clause-candidate c n m T R net marking stuck wants = stuck_candidate n m T R net stuck wants
