use Rattle.std.proofs.Common.{List, subst}
use Rattle.outline_pieces.specs.declared.pieces.Piece.{Piece}
use Rattle.outline_pieces.specs.Taken.{HasTaken}
use Rattle.outline_pieces.proofs.Taking.{sleeps_first, takes_next, takes_last}
use Rattle.outline_pieces.proofs.builder.Builder.wait.Goals as goal

pub loop-monitor-init : goal.loop-monitor-init
loop-monitor-init c m n ps has =
    let P : List Piece → Type 0 = HasTaken m n c.push-2.new.self in
    subst P (sleeps_first ps c.args.line c.args.resource) (c.push-2.ensures m n _ (c.push.ensures m n ps has))

pub loop-monitor-preserved : goal.loop-monitor-preserved
loop-monitor-preserved c m n ps has =
    let P : List Piece → Type 0 = HasTaken m n c.push-in-loop-monitor.new.self in
    subst P (takes_next ps c.args.line c.args.resource c.loop-monitor.monitor-index c.args.takes.now c.loop-monitor-test.true)
    (c.push-in-loop-monitor.ensures m n _ (c.loop-monitor.invariant m n ps has))

pub returns : goal.returns
returns c m n ps has =
    let P : List Piece → Type 0 = HasTaken m n c.push-3.new.self in
    subst P (takes_last ps c.args.line c.args.resource c.loop-monitor.monitor-index c.args.takes.now c.loop-monitor-test.false)
    (c.push-3.ensures m n _ (c.loop-monitor.invariant m n ps has))
