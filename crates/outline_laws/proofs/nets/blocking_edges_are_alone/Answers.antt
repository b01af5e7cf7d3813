use Rattle.outline_laws.proofs.Placed.{blocks_alone}
use Rattle.outline_laws.proofs.nets.blocking_edges_are_alone.Goals as goal

pub returns : goal.returns
returns c = blocks_alone
