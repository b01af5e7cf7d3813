use Rattle.reached_states.proofs.Holdings.{steps_change_one}
use Rattle.reached_states.proofs.a_step_changes_one_holding.Goals as goal

pub returns : goal.returns
returns c = steps_change_one
