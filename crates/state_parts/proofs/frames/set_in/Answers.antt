use Rattle.state_parts.proofs.Framing.{frame_set}
use Rattle.state_parts.proofs.frames.set_in.Goals as goal

pub returns-in-Some-clause-valid : goal.returns-in-Some-clause-valid
returns-in-Some-clause-valid c p is = frame_set p c.args.tables.now c.args.x.now c.set.new.self c.in-Some.names.now is c.in-Some.ensures.some c.set.ensures.values c.set.ensures.place c.set.ensures.function
