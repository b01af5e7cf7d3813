use Rattle.std.proofs.Common.{arith}
use Rattle.net_laws.specs.Candidates.{members}
use Rattle.candidates.proofs.Numbers.{part_le}
use Rattle.candidates.proofs.Bitwise.{has_some, none_in}
use Rattle.candidates.proofs.Walks.{AreSeen-all, AreSeen-next, next_falls, fresh_from, later_from}
use Rattle.candidates.proofs.graph.reached.Goals as goal

pub lowest-next-requires : goal.lowest-next-requires
lowest-next-requires c =
    let inv = c.loop-left.invariant in
    has_some c.loop-left.left (omega (arith, c.loop-left-test.true))
    (omega (arith, part_le c.loop-left.left c.loop-left.seen inv.left_part, part_le c.loop-left.seen c.args.set inv.part, c.ranges.set.fits))

pub loop-left-smaller : goal.loop-left-smaller
loop-left-smaller c =
    next_falls c.args.rows.now c.args.set c.loop-left.seen c.loop-left.left c.union-seen.result c.without_member-left.result c.difference-unseen.result c.args.resource c.lowest-next.result
    c.loop-left.invariant c.lowest-next.ensures.member (fresh_from _ _ _ _ _ c.common.ensures c.difference-unseen.ensures) c.union-seen.ensures
    (later_from _ _ _ _ _ c.union.ensures c.without_member-left.ensures.members) c.without_member-left.type_inv

pub loop-left-preserved : goal.loop-left-preserved
loop-left-preserved c =
    AreSeen-next c.args.rows.now (members c.args.set) (members c.loop-left.seen) (members c.loop-left.left) (members c.union-seen.result) (members c.without_member-left.result) (members c.difference-unseen.result) c.args.resource c.lowest-next.result
    c.loop-left.invariant c.lowest-next.ensures.member (fresh_from _ _ _ _ _ c.common.ensures c.difference-unseen.ensures) c.union-seen.ensures
    (later_from _ _ _ _ _ c.union.ensures c.without_member-left.ensures.members)

pub returns : goal.returns
returns c = AreSeen-all c.args.rows.now (members c.args.set) (members c.loop-left.seen) (members c.loop-left.left) c.args.resource c.loop-left.invariant (λ s. none_in c.loop-left.left s c.loop-left-test.false)
