use Rattle.gadara_net.specs.Flows.{flow_net}
use Rattle.candidates.proofs.Lying.{zero_before}
use Rattle.candidates.proofs.Listed.{found_each, found_only, found_ordered}
use Rattle.candidates.proofs.laws.candidates_come_once.Goals as goal

pub returns-clause-each : goal.returns-clause-each
returns-clause-each c found C are lt is =
    let n = flow_net c.args.net.now in
    found_each n found 0 C are (record { below = lt; candidate = is; behind = zero_before n C is })

pub returns-clause-only : goal.returns-clause-only
returns-clause-only c found k C are at = found_only (flow_net c.args.net.now) found 0 k C are at

pub returns-clause-ordered : goal.returns-clause-ordered
returns-clause-ordered c found j k B C are lt at to = found_ordered (flow_net c.args.net.now) found 0 j k B C are lt at to
