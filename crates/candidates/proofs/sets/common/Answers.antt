use Rattle.candidates.proofs.Bitwise.{members-common}
use Rattle.candidates.proofs.sets.common.Goals as goal

pub returns : goal.returns
returns c r = members-common c.args.one c.args.other r
