use Rattle.net_laws.proofs.Minimal.{covered_lines, valid_lines, no_stuck_set}
use Rattle.net_laws.proofs.lines.nets_with_lines_have_no_stuck_set.Goals as goal

pub returns-clause-lines : goal.returns-clause-lines
returns-clause-lines c = no_stuck_set

pub returns-clause-covered : goal.returns-clause-covered
returns-clause-covered c n m T net shaped covered = no_stuck_set n m T net shaped.few (covered_lines n shaped covered)

pub returns-clause-valid : goal.returns-clause-valid
returns-clause-valid c n m T lines net few valid = no_stuck_set n m T net few (valid_lines n lines valid)
