use Rattle.net_laws.proofs.Minimal.{covered_lines, minimal_valid}
use Rattle.net_laws.proofs.lines.minimal_sets_give_lines.Goals as goal

pub returns-clause-covered : goal.returns-clause-covered
returns-clause-covered c = covered_lines

pub returns-clause-valid : goal.returns-clause-valid
returns-clause-valid c = minimal_valid
