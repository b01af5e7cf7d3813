use Rattle.std.proofs.Common.{sym, subst}
use Rattle.smallvec.specs.SmallVec.{HasRoomFor}
use Rattle.c_meaning.specs.Shown.{shown_body}
use Rattle.c_frames.proofs.Placed.{still_room}
use Rattle.c_frames.proofs.frames.Frame.pass.Goals as goal

pub settle-requires : goal.settle-requires
settle-requires c =
    let entered = c.args.self.now.at.entered in
    subst (λ v. HasRoomFor v 0) (sym c.pass.ensures.entered) (still_room (shown_body c.args.f.now.body) entered.items entered.capacity c.requires.descends c.requires.room)
