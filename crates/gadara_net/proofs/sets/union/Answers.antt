use Rattle.gadara_net.proofs.Bits.{members-union}
use Rattle.gadara_net.proofs.sets.union.Goals as goal

pub returns : goal.returns
returns c r = members-union c.args.one c.args.other r
