use Rattle.accounts.proofs.Marked.{states_marked, held_marked, free_marked}
use Rattle.accounts.proofs.points.reached_states_are_marked.Goals as goal

pub returns-clause-marking : goal.returns-clause-marking
returns-clause-marking c = states_marked

pub returns-clause-held : goal.returns-clause-held
returns-clause-held c = held_marked

pub returns-clause-free : goal.returns-clause-free
returns-clause-free c = free_marked
