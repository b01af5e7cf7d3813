use Rattle.gadara_net.specs.Flows.{flow_net}
use Rattle.gadara_net.proofs.laws.stuck_sets_empty_siphons.Goals as goal

pub returns-clause-no_thread : goal.returns-clause-no_thread
returns-clause-no_thread c m T R = c.stuck_sets_empty_siphons.ensures.no_thread (flow_net c.args.net.now) m T R c.keeps_flow.ensures.net

pub returns-clause-candidate : goal.returns-clause-candidate
returns-clause-candidate c m T R = c.stuck_sets_empty_siphons.ensures.candidate (flow_net c.args.net.now) m T R c.keeps_flow.ensures.net
