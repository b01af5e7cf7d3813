use Rattle.std.proofs.Common.{sym}
use Rattle.outline_pieces.proofs.Small.{none_held}
use Rattle.outline_pieces.proofs.counts.is_held.Goals as goal

pub returns-in-None : goal.returns-in-None
returns-in-None c = sym (none_held c.args.held.now c.args.resource (sym c.in-None.ensures))
