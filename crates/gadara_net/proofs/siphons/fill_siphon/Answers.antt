use Rattle.gadara_net.proofs.Marking.{AreMarked-none}
use Rattle.gadara_net.proofs.siphons.fill_siphon.Goals as goal

pub mark_givers-end-requires-clause-none : goal.mark_givers-end-requires-clause-none
mark_givers-end-requires-clause-none g c = AreMarked-none _ _ _ _ c.clear.ensures.empty c.requires.room
