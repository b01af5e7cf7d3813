use Rattle.std.proofs.Common.{subst}
use Rattle.gadara_net.specs.Flows.{flow_net}
use Rattle.candidates.specs.Next.{IsLast, IsNext}
use Rattle.candidates.proofs.Order.{steps_left-falls}
use Rattle.siphon_enum.proofs.Further.{before_next, all_up_to, first_before, more_than}
use Rattle.siphon_enum.proofs.listing.list.Goals as goal

pub keep-requires-clause-before : goal.keep-requires-clause-before
keep-requires-clause-before g c =
    let at = c.loop-next.at in
    let is = subst (λ f. IsNext (flow_net f) at c.in-Some.next) c.requires.same c.in-Some.ensures in
    before_next (flow_net c.args.net.now) at c.in-Some.next c.loop-next.sets.items is c.loop-next.invariant.up_to

pub returns-then-not-keep-clause-listed : goal.returns-then-not-keep-clause-listed
returns-then-not-keep-clause-listed g c =
    let n = flow_net c.args.net.now in
    let sets = c.keep.new.sets.items in
    let ordered = c.keep.ensures.kept.ordered in
    let is = c.if-not-keep.ensures.within in
    (first_before n c.args.limit c.in-Some.next sets ordered is, more_than n c.args.limit c.in-Some.next sets ordered is)

pub loop-next-smaller : goal.loop-next-smaller
loop-next-smaller g c =
    let is = c.in-Some.ensures.is in steps_left-falls c.loop-next.at c.in-Some.next is.below is.behind

pub returns-clause-listed : goal.returns-clause-listed
returns-clause-listed g c =
    let at = c.loop-next.at in
    let last = subst (λ f. IsLast (flow_net f) at) c.requires.same c.in_default.ensures in
    all_up_to (flow_net c.args.net.now) at c.loop-next.sets.items last c.loop-next.invariant.kept.ordered c.loop-next.invariant.up_to
