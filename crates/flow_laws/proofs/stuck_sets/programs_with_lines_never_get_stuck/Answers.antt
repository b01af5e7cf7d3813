use Rattle.flow_laws.proofs.Shown.{flow_lines_unstuck, flow_covered_unstuck, flow_valid_unstuck}
use Rattle.flow_laws.proofs.stuck_sets.programs_with_lines_never_get_stuck.Goals as goal

pub returns-clause-lines : goal.returns-clause-lines
returns-clause-lines c = flow_lines_unstuck

pub returns-clause-covered : goal.returns-clause-covered
returns-clause-covered c = flow_covered_unstuck

pub returns-clause-valid : goal.returns-clause-valid
returns-clause-valid c = flow_valid_unstuck
