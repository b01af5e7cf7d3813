use Rattle.std.proofs.Common.{arith, subst}
use Rattle.std.specs.Prelude.{IsTrue}
use Rattle.net_laws.specs.Candidates.{members}
use Rattle.candidates.proofs.Bitwise.{has_some, none_in}
use Rattle.candidates.proofs.Choices.{no_step_empty, no_step, raised_step_of, nothing_left}
use Rattle.candidates.proofs.subsets.step.Goals as goal

pub returns-then-set-eq0 : goal.returns-then-set-eq0
returns-then-set-eq0 c = no_step_empty c.args.set c.args.room c.if-set-eq0.true

pub lowest-requires : goal.lowest-requires
lowest-requires c = has_some c.args.set (omega (arith, c.if-set-eq0.false)) c.ranges.set.fits

pub returns-then-free-eq0 : goal.returns-then-free-eq0
returns-then-free-eq0 c =
    no_step c.args.set c.args.room c.lowest.result c.lowest.ensures.least
    (λ i on. subst (λ x. IsTrue (members x i)) c.with_all_below-full.ensures (nothing_left c.args.room c.with_all_below-full.result c.difference-free.result i c.difference-free.ensures (none_in c.difference-free.result i c.if-free-eq0.true) on))

pub lowest-requires-2 : goal.lowest-requires-2
lowest-requires-2 c = has_some c.difference-free.result (omega (arith, c.if-free-eq0.false)) c.difference-free.type_inv

pub returns : goal.returns
returns c =
    let p = c.lowest-2.result in
    let free = (c.difference-free.ensures p).0 c.lowest-2.ensures.member in
    raised_step_of c.args.set c.args.room c.lowest.result p c.with_all_below-full.result c.raised.result c.with_all_below-full.ensures c.requires c.lowest.ensures.member c.lowest.ensures.least free.0 free.1
    (λ i lt on. nothing_left c.args.room c.with_all_below-full.result c.difference-free.result i c.difference-free.ensures (c.lowest-2.ensures.least i lt) on)
    c.raised.ensures.number c.raised.ensures.members
