use Rattle.std.proofs.Common.{sym}
use Rattle.gadara_net.proofs.Marking.{AreMarked-more}
use Rattle.gadara_net.proofs.marks.mark.Goals as goal

pub returns-clause-sound : goal.returns-clause-sound
returns-clause-sound g c n R in_siphon is =
    let off = sym c.if-has.ensures.has in
    AreMarked-more n R _ _ c.args.row.now c.args.end c.args.point is c.insert.ensures.gained off c.requires.within (c.requires.room off) in_siphon
