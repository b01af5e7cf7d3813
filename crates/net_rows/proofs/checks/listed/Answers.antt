use Rattle.std.proofs.Common.{inr}
use Rattle.candidates.proofs.Order.{steps_left-falls}
use Rattle.net_rows.proofs.checks.listed.Goals as goal

pub loop-next-preserved : goal.loop-next-preserved
loop-next-preserved c = inr c.in-Some.ensures.is.candidate

pub loop-next-smaller : goal.loop-next-smaller
loop-next-smaller c = steps_left-falls c.loop-next.at c.in-Some.next c.in-Some.ensures.is.below c.in-Some.ensures.is.behind
