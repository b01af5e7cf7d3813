use Rattle.candidates.proofs.Bitwise.{members-difference}
use Rattle.candidates.proofs.sets.difference.Goals as goal

pub returns : goal.returns
returns c r = members-difference c.args.one c.args.other r c.ranges.one.fits c.ranges.other.fits
