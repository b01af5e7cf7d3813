use Rattle.candidates.proofs.Bitwise.{members-either}
use Rattle.candidates.proofs.sets.union.Goals as goal

pub returns : goal.returns
returns c r = members-either c.args.one c.args.other r
