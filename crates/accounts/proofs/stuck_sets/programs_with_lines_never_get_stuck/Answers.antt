use Rattle.accounts.proofs.Stuck.{lines_unstuck, covered_unstuck, valid_unstuck}
use Rattle.accounts.proofs.stuck_sets.programs_with_lines_never_get_stuck.Goals as goal

pub returns-clause-lines : goal.returns-clause-lines
returns-clause-lines c = lines_unstuck

pub returns-clause-covered : goal.returns-clause-covered
returns-clause-covered c = covered_unstuck

pub returns-clause-valid : goal.returns-clause-valid
returns-clause-valid c = valid_unstuck
