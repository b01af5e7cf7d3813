use Rattle.gadara_net.specs.Flows.{flow_net}
use Rattle.gadara_net.proofs.laws.nets_with_lines_have_no_stuck_set.Goals as goal

pub returns-clause-lines : goal.returns-clause-lines
returns-clause-lines c m T has marking stuck =
    let flow = c.keeps_flow.ensures in c.nets_with_lines_have_no_stuck_set.ensures.lines (flow_net c.args.net.now) m T flow.net flow.shaped.few has marking stuck

pub returns-clause-covered : goal.returns-clause-covered
returns-clause-covered c m T covered marking stuck =
    let flow = c.keeps_flow.ensures in c.nets_with_lines_have_no_stuck_set.ensures.covered (flow_net c.args.net.now) m T flow.net flow.shaped covered marking stuck

pub returns-clause-valid : goal.returns-clause-valid
returns-clause-valid c m T lines valid marking stuck =
    let flow = c.keeps_flow.ensures in c.nets_with_lines_have_no_stuck_set.ensures.valid (flow_net c.args.net.now) m T lines flow.net flow.shaped.few valid marking stuck
