use Rattle.held_counts.proofs.Along.{is_net, held_once, counts_full}
use Rattle.held_counts.proofs.held_nets_are_nets.Goals as goal

pub returns-clause-net : goal.returns-clause-net
returns-clause-net c = is_net

pub returns-clause-once : goal.returns-clause-once
returns-clause-once c = held_once

pub returns-clause-full : goal.returns-clause-full
returns-clause-full c = counts_full
