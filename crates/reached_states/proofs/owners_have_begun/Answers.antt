use Rattle.reached_states.proofs.Counts.{owners_are_threads}
use Rattle.reached_states.proofs.Owners.{reached_owners, reached_rows}
use Rattle.reached_states.proofs.owners_have_begun.Goals as goal

pub returns-clause-owners : goal.returns-clause-owners
returns-clause-owners c = reached_owners

pub returns-clause-threads : goal.returns-clause-threads
returns-clause-threads c = owners_are_threads

pub returns-clause-rows : goal.returns-clause-rows
returns-clause-rows c = reached_rows
