use Rattle.std.proofs.Common.{arith}
use Rattle.std.proofs.lemmas.Bool.{eqb-true, eq-eqb}
use Rattle.candidates.proofs.Numbers.{member_below}
use Rattle.candidates.proofs.Bitwise.{has_some}
use Rattle.candidates.proofs.Walks.{circular_from, circular_there, circular_back}
use Rattle.candidates.proofs.graph.is_circular.Goals as goal

pub lowest-first-requires : goal.lowest-first-requires
lowest-first-requires c = has_some c.args.set (omega (arith, c.if-set-eq0.false)) c.ranges.set.fits

pub returns-then-reached-set : goal.returns-then-reached-set
returns-then-reached-set c =
    let set = c.args.set in
    let first = c.lowest-first.result in (
      λ on. circular_from c.args.rows.now c.args.back.now set first _ _ c.ranges.set.fits (λ r. member_below set 64 r c.ranges.set.fits) c.requires.reversed c.lowest-first.ensures.member
          c.reached.ensures c.reached-then-reached-set.ensures c.if-reached-set.true (eqb-true _ _ on),
      λ is. eq-eqb _ _ (circular_back c.args.rows.now c.args.back.now set first _ (λ r. member_below set 64 r c.ranges.set.fits) c.requires.reversed c.lowest-first.ensures.member c.reached-then-reached-set.ensures is),
    )

pub returns-else-reached-set : goal.returns-else-reached-set
returns-else-reached-set c = (
  λ on. absurd (c.if-reached-set.false (eqb-true _ _ on)),
  λ is. eq-eqb _ _ (circular_there c.args.rows.now c.args.set c.lowest-first.result _ c.lowest-first.ensures.member c.reached.ensures is),
)
