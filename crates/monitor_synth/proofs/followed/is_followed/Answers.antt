use Rattle.std.proofs.Common.{◌&&◌, not, sym, ap, ◌∙◌}
use Rattle.gadara_net.specs.Flows.{flow_net}
use Rattle.weight_laws.specs.Flow.{tries}
use Rattle.monitor_synth.proofs.followed.is_followed.Goals as goal

pub returns-then-is_quiet : goal.returns-then-is_quiet
returns-then-is_quiet c =
    let n = flow_net c.args.n.now in
    let from = c.args.edge.from in
    ap not c.tries.ensures ∙ sym (ap (λ b. b && not (tries n from)) (sym c.is_quiet.ensures ∙ c.if-is_quiet.true))
