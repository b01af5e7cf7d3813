use Rattle.gadara_net.specs.Flows.{flow_net}
use Rattle.monitor_synth.proofs.OfSets.{moved_of}
use Rattle.monitor_synth.proofs.laws.moved_weights_change_where_they_may.Goals as goal

pub returns-clause-rises : goal.returns-clause-rises
returns-clause-rises c R w m a moved =
    let n = flow_net c.args.net.now in
    c.moved_weights_change_where_they_may.ensures.rises n R a.marks m (moved_of n R w m a moved)

pub returns-clause-falls : goal.returns-clause-falls
returns-clause-falls c R w m flow a moved =
    let n = flow_net c.args.net.now in
    c.moved_weights_change_where_they_may.ensures.falls n R a.marks m flow a.marked (moved_of n R w m a moved)

pub returns-clause-stays : goal.returns-clause-stays
returns-clause-stays c R w m flow a moved =
    let n = flow_net c.args.net.now in
    c.moved_weights_change_where_they_may.ensures.stays n R a.marks m flow a.marked (moved_of n R w m a moved)
