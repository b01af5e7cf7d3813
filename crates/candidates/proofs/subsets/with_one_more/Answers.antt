use Rattle.std.proofs.Common.{arith}
use Rattle.candidates.proofs.Bitwise.{has_some}
use Rattle.candidates.proofs.Choices.{one_more, nothing_left}
use Rattle.candidates.proofs.subsets.with_one_more.Goals as goal

pub lowest-requires : goal.lowest-requires
lowest-requires c = has_some c.difference-free.result (omega (arith, c.if-free-eq0.false)) c.difference-free.type_inv

pub returns : goal.returns
returns c =
    let q = c.lowest.result in
    let free = (c.difference-free.ensures q).0 c.lowest.ensures.member in
    one_more c.args.room c.args.set q c.with_member.result c.requires free.0 free.1
    (λ i lt on. nothing_left c.args.room c.args.set c.difference-free.result i c.difference-free.ensures (c.lowest.ensures.least i lt) on)
    (c.with_member.ensures.number free.1) c.with_member.ensures.members
