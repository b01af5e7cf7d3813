use Rattle.net_laws.specs.Candidates.{members}
use Rattle.gadara_net.proofs.Bounding.{holds_from, within_from}
use Rattle.gadara_net.proofs.lines.kind_holds.Goals as goal

pub returns-then-is_of_net : goal.returns-then-is_of_net
returns-then-is_of_net c =
    let m = c.requires.measured in
    let of_net = (c.is_of_net.ensures (members c.args.resources) m.total).0 c.if-is_of_net.true in (
      λ on. holds_from c.args.flow.now c.args.resources c.args.tokens c.args.sums.now c.args.kind.now m of_net (c.is_within.ensures.0 on),
      λ holds. c.is_within.ensures.1 (within_from c.args.flow.now c.args.resources c.args.tokens c.args.sums.now c.args.kind.now m holds),
    )
