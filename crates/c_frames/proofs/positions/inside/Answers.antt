use Rattle.std.proofs.Common.{refl}
use Rattle.c_meaning.specs.Shown.{shown_body}
use Rattle.c_frames.specs.Positions.{inside}
use Rattle.c_frames.proofs.Standings.{enters, entered_all}
use Rattle.c_frames.proofs.positions.inside.Goals as goal

pub loop-q-init : goal.loop-q-init
loop-q-init c = refl

pub loop-q-preserved : goal.loop-q-preserved
loop-q-preserved c =
    enters (shown_body c.loop-q.list.now) (shown_body c.list_in-list.result.now) c.args.at.now c.loop-q.q-index _ (inside (shown_body c.args.body.now) c.args.at.now)
    c.loop-q-test.true c.list_in-list.ensures c.loop-q.invariant

pub returns : goal.returns
returns c = entered_all (shown_body c.loop-q.list.now) c.args.at.now c.loop-q.q-index (inside (shown_body c.args.body.now) c.args.at.now) c.loop-q-test.false c.loop-q.invariant
