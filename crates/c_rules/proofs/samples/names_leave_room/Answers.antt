use Rattle.c_rules.proofs.NamingSampled.{names_leave_room}
use Rattle.c_rules.proofs.samples.names_leave_room.Goals as goal

pub returns : goal.returns
returns c = names_leave_room
