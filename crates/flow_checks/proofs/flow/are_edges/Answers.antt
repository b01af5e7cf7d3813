use Rattle.std.proofs.Common.{◌≡◌, length, slice_get, Some, arith, refl, sym, ap, subst, inl, inr}
use Rattle.edges.specs.declared.EdgeOp.TheVariants.{Plain}
use Rattle.gadara_net.specs.Flows.{flow_net}
use Rattle.flow_checks.specs.Checks.{IsEdgeOf}
use Rattle.std.proofs.lemmas.Bool.{cases_eq}
use Rattle.std.proofs.lemmas.Option.{get_or_from_slice_get, slice_get_within}
use Rattle.flow_checks.proofs.flow.are_edges.Goals as goal

pub loop-edge-preserved : goal.loop-edge-preserved
loop-edge-preserved c k e less at =
    let n = flow_net c.args.flow.now in
    elim (cases_eq k c.loop-edge.edge-index) [
      | inl here ↦
          let is = subst (λ edges. slice_get edges c.loop-edge.edge-index ≡ Some e) (sym c.as_slice-edge-items.ensures) (subst (λ i. slice_get c.args.flow.now.edges i ≡ Some e) here at) in
          subst (λ edge. IsEdgeOf n edge) (get_or_from_slice_get c.as_slice-edge-items.result.now c.loop-edge.edge-index e (record { from = 0; to = 0; op = Plain }) is) (c.is_edge_of.ensures.0 c.if-not-is_edge_of.false)
      | inr before ↦ c.loop-edge.invariant k e (omega arith) at
    ]

pub returns : goal.returns
returns c = (
  λ _ e has. c.loop-edge.invariant has.0 e (omega (arith, c.loop-edge-test.false, slice_get_within c.args.flow.now.edges has.0 e has.1, ap length c.as_slice-edge-items.ensures)) has.1,
  λ _. refl,
)
