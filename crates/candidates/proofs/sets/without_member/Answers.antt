use Rattle.candidates.proofs.Bitwise.{members-without, without_less}
use Rattle.candidates.proofs.sets.without_member.Goals as goal

pub returns-clause-members : goal.returns-clause-members
returns-clause-members c r = members-without c.args.resources c.args.resource r c.ranges.resources.fits c.requires

pub returns-clause-less : goal.returns-clause-less
returns-clause-less c has = without_less c.args.resources c.args.resource _ (λ r. members-without c.args.resources c.args.resource r c.ranges.resources.fits c.requires) has
