use Rattle.candidates.proofs.Bitwise.{lowest_is}
use Rattle.candidates.proofs.sets.lowest.Goals as goal

pub returns-clause-below : goal.returns-clause-below
returns-clause-below c = (lowest_is c.args.resources c.requires c.ranges.resources.fits).0

pub returns-clause-member : goal.returns-clause-member
returns-clause-member c = (lowest_is c.args.resources c.requires c.ranges.resources.fits).1

pub returns-clause-least : goal.returns-clause-least
returns-clause-least c = (lowest_is c.args.resources c.requires c.ranges.resources.fits).2
