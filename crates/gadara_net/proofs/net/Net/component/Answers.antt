use Rattle.std.proofs.Common.{◌<◌, length, sym, ap, ◌∙◌, subst, ⊎_elim, inl, inr, arith}
use Rattle.std.specs.Prelude.{IsTrue}
use Rattle.net_laws.specs.Candidates.{InComponent, members}
use Rattle.gadara_net.specs.Flows.{flow_net}
use Rattle.gadara_net.proofs.Reaching.{arc_below, joined_in, reached_in, joined_below}
use Rattle.gadara_net.proofs.net.Net.component.Goals as goal

pub join_all-requires-clause-below : goal.join_all-requires-clause-below
join_all-requires-clause-below c r s lt on = arc_below c.self.inside.flow r s c.self.invariant.0 (sym (c.arcs-rows.ensures r s lt) ∙ on)

pub returns : goal.returns
returns c s =
    let f = c.self.inside.flow in
    let is = c.self.invariant.0 in
    let rows = c.arcs-rows.result in
    let same = c.arcs-rows.ensures in
    let low : c.args.r < 64 = omega (arith, c.requires, is.shaped.few, ap (λ x. length x.tokens) c.self.view_is) in
    let m = c.mutual.ensures s in
    subst (λ x. (IsTrue (members c.mutual.result s) → InComponent (flow_net x) c.args.r s) × (InComponent (flow_net x) c.args.r s → IsTrue (members c.mutual.result s))) c.self.view_is (
      λ on.
          ⊎_elim
          (λ e. inl e)
          (λ b. inr (joined_in f rows is same c.args.r s low ((c.join_all.ensures c.args.r s low).0 b.1), joined_in f rows is same s c.args.r b.0 ((c.join_all.ensures s c.args.r b.0).0 b.2)))
          (m.0 on),
      λ into.
          m.1 (⊎_elim
          (λ e. inl e)
          (λ b. let below = joined_below f is b.0.0 c.args.r s b.0.1 in
          inr (below, (c.join_all.ensures c.args.r s low).1 (reached_in f rows is same c.args.r s low b.0), (c.join_all.ensures s c.args.r below).1 (reached_in f rows is same s c.args.r below b.1)))
          into),
    )
