use Rattle.std.proofs.Common.{arith}
use Rattle.std.proofs.Math.Pow.{pow_mono}
use Rattle.candidates.proofs.search.Candidates.next_of_size.Goals as goal

pub returns : goal.returns
returns c C sized = omega (arith, c.loop-top.invariant.from_here C sized, pow_mono c.loop-top-test.false, sized.below)
