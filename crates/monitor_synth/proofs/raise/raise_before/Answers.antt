use Rattle.std.proofs.Common.{◌≡◌, ◌≤◌, suc, sym, ap, ◌∙◌, subst, ⊎_elim, arith}
use Rattle.std.specs.Prelude.{IsTrue, slice_get, slice_index}
use Rattle.std.proofs.lemmas.Bool.{cases_lt}
use Rattle.std.proofs.lemmas.Option.{same_Some}
use Rattle.gadara_net.specs.Flows.{flow_net}
use Rattle.weight_laws.specs.Weights.{follows}
use Rattle.monitor_synth.proofs.Rising.{after, last_here, last_none, HaveRisen-trans}
use Rattle.monitor_synth.proofs.raise.raise_before.Goals as goal

pub loop-next-preserved : goal.loop-next-preserved
loop-next-preserved c =
    let n = flow_net c.args.n.now in
    let edges = c.args.n.now.edges in
    let k = c.in-Some.k in
    let e = c.edge.result in
    let inv = c.loop-next.invariant in
    let made = c.in_ok-raise.ensures in
    let next = c.edge_before-next.result in
    let place = inv.here k c.in-Some.is in
    let to = place.1 e c.edge.ensures in
    let last = c.edge_before-next.ensures e c.edge.ensures in
    let go_on : after c.loop-next.next ≡ suc k = ap after c.in-Some.is in
    record {
      level = made.stays c.args.point (omega (arith, inv.level)) ∙ inv.level;
      here = λ j is. let l = last_here edges e.to k next last j is in (omega (arith, l.0, place.0), (λ d at. l.1 d at ∙ to));
      done = λ j d from_on at to_d go.
          ⊎_elim
          (λ below. absurd (last_none edges e.to k next last j d from_on below at (to_d ∙ sym to)))
          (λ le.
          ⊎_elim
          (λ above. omega (arith, inv.done j d (omega (arith, go_on, above)) at to_d go, made.risen.grown d.from))
          (λ ge.
          let here : k ≡ j = omega (arith, le, ge) in
          let same : e ≡ d = same_Some e d (sym c.edge.ensures ∙ (ap (slice_get edges) here ∙ at)) in
          subst (λ x. slice_index c.args.moved.now c.args.point ≤ slice_index c.raise.new.moved x.from) same (made.source (subst (λ x. IsTrue (follows n x)) (sym same) go)))
          (cases_lt k j))
          (cases_lt j k);
      risen = HaveRisen-trans _ _ _ _ _ _ inv.risen made.risen;
      reached = λ w was. made.reached w (inv.reached w was);
      below = made.below;
      less = omega (arith, made.less, inv.less);
    }
