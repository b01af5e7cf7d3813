use Rattle.gadara_net.proofs.Bits.{members-set}
use Rattle.gadara_net.proofs.sets.with_member.Goals as goal

pub returns : goal.returns
returns c r = members-set c.args.resources c.args.resource r c.requires
