use Rattle.net_laws.proofs.Emptied.{no_line}
use Rattle.net_laws.proofs.lines.stuck_sets_leave_no_line.Goals as goal

pub returns : goal.returns
returns c = no_line
