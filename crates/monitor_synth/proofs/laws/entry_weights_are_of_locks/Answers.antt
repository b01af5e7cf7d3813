use Rattle.gadara_net.specs.Flows.{flow_net}
use Rattle.monitor_synth.proofs.OfSets.{moved_of}
use Rattle.monitor_synth.proofs.laws.entry_weights_are_of_locks.Goals as goal

pub returns-clause-blocking : goal.returns-clause-blocking
returns-clause-blocking c R w m entry a moved =
    let n = flow_net c.args.net.now in
    c.entry_weights_are_of_locks.ensures.blocking n R a.marks m entry c.keeps_flow.ensures.net a.marked (moved_of n R w m a moved)

pub returns-clause-free : goal.returns-clause-free
returns-clause-free c R w m entry a moved =
    let n = flow_net c.args.net.now in
    c.entry_weights_are_of_locks.ensures.free n R a.marks m entry (moved_of n R w m a moved)

pub returns-clause-straight : goal.returns-clause-straight
returns-clause-straight c R w m entry flow a moved =
    let n = flow_net c.args.net.now in
    c.entry_weights_are_of_locks.ensures.straight n R a.marks m entry flow a.marked (moved_of n R w m a moved)
