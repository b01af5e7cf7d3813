use Rattle.reached_states.proofs.Ending.{reached_main_ends}
use Rattle.reached_states.proofs.main_ends_with_the_program.Goals as goal

pub returns : goal.returns
returns c = reached_main_ends
