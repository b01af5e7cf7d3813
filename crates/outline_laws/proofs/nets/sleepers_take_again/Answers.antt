use Rattle.outline_laws.proofs.Placed.{sleepers_wake}
use Rattle.outline_laws.proofs.nets.sleepers_take_again.Goals as goal

pub returns : goal.returns
returns c = sleepers_wake
