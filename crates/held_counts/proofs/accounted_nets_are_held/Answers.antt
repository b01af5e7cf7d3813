use Rattle.held_counts.proofs.Accounted.{accounts_make_held_nets}
use Rattle.held_counts.proofs.accounted_nets_are_held.Goals as goal

pub returns : goal.returns
returns c = accounts_make_held_nets
