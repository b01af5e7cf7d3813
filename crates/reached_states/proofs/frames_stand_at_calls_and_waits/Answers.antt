use Rattle.reached_states.proofs.Standing.{reached_stand}
use Rattle.reached_states.proofs.frames_stand_at_calls_and_waits.Goals as goal

pub returns : goal.returns
returns c = reached_stand
