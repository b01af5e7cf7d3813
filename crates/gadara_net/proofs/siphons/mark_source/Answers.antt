use Rattle.std.proofs.Common.{◌≡◌, false, rules}
use Rattle.net_laws.specs.Candidates.{members}
use Rattle.gadara_net.specs.Flows.{flow_net}
use Rattle.gadara_net.specs.Marks.{takes_one}
use Rattle.gadara_net.proofs.Flowing.{edge_has_bit}
use Rattle.gadara_net.proofs.Marking.{AreMarked-room, source_in}
use Rattle.gadara_net.proofs.siphons.mark_source.Goals as goal

pub takes_member-requires : goal.takes_member-requires
takes_member-requires g c = edge_has_bit c.args.flow.now c.args.edge c.requires.flow c.requires.edge

pub mark-requires-clause-room : goal.mark-requires-clause-room
mark-requires-clause-room g c off = AreMarked-room (flow_net c.args.flow.now) _ _ c.args.row.now c.args.end c.args.edge.from c.requires.marked (c.requires.flow.shaped.leads c.args.edge c.requires.edge).0 off

pub returns-clause-marked : goal.returns-clause-marked
returns-clause-marked g c =
    let takes : takes_one (members c.args.resources) c.args.edge.op ≡ false = search rules in
    c.mark.ensures.sound (flow_net c.args.flow.now) (members c.args.resources) (source_in (flow_net c.args.flow.now) _ c.args.edge c.requires.edge takes (c.requires.marked.sound c.args.edge.to c.requires.to).1) c.requires.marked
