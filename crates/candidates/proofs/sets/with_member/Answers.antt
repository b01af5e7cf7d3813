use Rattle.gadara_net.proofs.Bits.{members-set}
use Rattle.candidates.proofs.Bitwise.{number_with}
use Rattle.candidates.proofs.sets.with_member.Goals as goal

pub returns-clause-members : goal.returns-clause-members
returns-clause-members c r = members-set c.args.resources c.args.resource r c.requires

pub returns-clause-number : goal.returns-clause-number
returns-clause-number c off = number_with c.args.resources c.args.resource c.requires off
