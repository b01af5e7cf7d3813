use Rattle.std.proofs.Common.{◌≡◌, length, slice_get, Some, arith, refl, sym, ap, subst, ◌∙◌, inl, inr}
use Rattle.flow_checks.specs.Checks.{IsPointOf}
use Rattle.std.proofs.lemmas.Bool.{cases_eq}
use Rattle.std.proofs.lemmas.Option.{get_or_from_slice_get, slice_get_within}
use Rattle.flow_checks.proofs.flow.are_points.Goals as goal

pub loop-point-preserved : goal.loop-point-preserved
loop-point-preserved c k p less at =
    let f = c.args.flow.now in
    elim (cases_eq k c.loop-point.point-index) [
      | inl here ↦
          let is = subst (λ points. slice_get points c.loop-point.point-index ≡ Some p) (sym c.as_slice-point-items.ensures) (subst (λ i. slice_get f.points i ≡ Some p) here at) in
          let item = c.point-item.is ∙ get_or_from_slice_get c.as_slice-point-items.result.now c.loop-point.point-index p c.point-item.result is in
          let holds = rw c.len.ensures at (c.is_point_of.ensures.0 c.if-not-is_point_of.false) in
          subst (λ point. IsPointOf point f.threads f.mutexes (length f.tokens)) item holds
      | inr before ↦ c.loop-point.invariant k p (omega arith) at
    ]

pub returns : goal.returns
returns c = (
  λ _ k p at. c.loop-point.invariant k p (omega (arith, c.loop-point-test.false, slice_get_within c.args.flow.now.points k p at, ap length c.as_slice-point-items.ensures)) at,
  λ _. refl,
)
