use Rattle.reached_states.proofs.Creating.{creates_are_fresh}
use Rattle.reached_states.proofs.threads_are_created_once.Goals as goal

pub returns : goal.returns
returns c = creates_are_fresh
