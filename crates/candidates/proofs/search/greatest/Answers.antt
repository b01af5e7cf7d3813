use Rattle.candidates.proofs.Searching.{greatest_is}
use Rattle.candidates.proofs.search.greatest.Goals as goal

pub returns-clause-within : goal.returns-clause-within
returns-clause-within c = (greatest_is c.args.set _ c.ranges.set.fits c.saturating_sub.ensures).1

pub returns-clause-least : goal.returns-clause-least
returns-clause-least c = (greatest_is c.args.set _ c.ranges.set.fits c.saturating_sub.ensures).2
