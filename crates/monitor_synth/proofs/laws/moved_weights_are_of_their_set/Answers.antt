use Rattle.gadara_net.specs.Flows.{flow_net}
use Rattle.monitor_synth.proofs.OfSets.{moved_of}
use Rattle.monitor_synth.proofs.laws.moved_weights_are_of_their_set.Goals as goal

pub returns : goal.returns
returns c R w m a moved = (a.marks, a.marked, moved_of (flow_net c.args.net.now) R w m a moved)
