use Rattle.reached_states.proofs.Lengths.{reached_have_lengths, reached_have_cells}
use Rattle.reached_states.proofs.lists_keep_their_lengths.Goals as goal

pub returns-clause-lengths : goal.returns-clause-lengths
returns-clause-lengths c = reached_have_lengths

pub returns-clause-cells : goal.returns-clause-cells
returns-clause-cells c = reached_have_cells
