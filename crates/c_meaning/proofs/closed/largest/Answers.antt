use Rattle.std.proofs.Common.{arith}
use Rattle.c_meaning.proofs.Masks.{has_all, has_few}
use Rattle.c_meaning.proofs.closed.largest.Goals as goal

pub loop-next-init : goal.loop-next-init
loop-next-init g c = (c.sweep-next.ensures.less, omega arith, c.sweep-next.ensures.same, (λ threads closed t below is. has_all t below), c.sweep-next.ensures.each (λ threads closed t below is. has_all t below))

pub returns-clause-closed : goal.returns-clause-closed
returns-clause-closed g c = record { stays = λ t is. c.loop-next.invariant.2 c.loop-next-test.false t (has_few c.loop-next.set t (omega (arith, c.loop-next.invariant.1)) is) is }
