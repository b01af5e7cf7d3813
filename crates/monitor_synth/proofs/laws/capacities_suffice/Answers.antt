use Rattle.std.proofs.Common.{arith}
use Rattle.gadara_net.specs.Flows.{flow_net}
use Rattle.monitor_synth.proofs.OfSets.{moved_of, entry_below}
use Rattle.monitor_synth.proofs.laws.capacities_suffice.Goals as goal

pub returns-clause-weights : goal.returns-clause-weights
returns-clause-weights c R w flow a some p lt =
    let n = flow_net c.args.net.now in
    omega (arith, a.exact p, c.capacities_suffice.ensures.weights n R a.marks flow a.marked some p lt)

pub returns-clause-moved : goal.returns-clause-moved
returns-clause-moved c R w m flow a moved =
    let n = flow_net c.args.net.now in
    c.capacities_suffice.ensures.moved n R a.marks m flow a.marked (moved_of n R w m a moved)

pub returns-clause-entries : goal.returns-clause-entries
returns-clause-entries c R w m entry flow a moved =
    let n = flow_net c.args.net.now in
    entry_below n R a.marks m entry flow a.marked (moved_of n R w m a moved)

pub returns-clause-two : goal.returns-clause-two
returns-clause-two c = c.capacities_suffice.ensures.two (flow_net c.args.net.now)

pub returns-clause-empty : goal.returns-clause-empty
returns-clause-empty c R w m a moved =
    let n = flow_net c.args.net.now in
    c.capacities_suffice.ensures.empty n R a.marks m c.keeps_flow.ensures.net (moved_of n R w m a moved)
