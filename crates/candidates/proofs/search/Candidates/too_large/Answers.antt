use Rattle.std.proofs.Common.{◌≡◌, ◌<◌, length, sym, ap, ◌∙◌, subst, ⊎_elim, arith}
use Rattle.std.specs.Prelude.{slice_index}
use Rattle.std.proofs.lemmas.Bool.{cases_lt}
use Rattle.gadara_net.specs.Flows.{flow_net}
use Rattle.candidates.specs.Components.{IsComponent, IsSmallAt}
use Rattle.candidates.proofs.Large.{small_at}
use Rattle.candidates.proofs.search.Candidates.too_large.Goals as goal

pub loop-r-preserved : goal.loop-r-preserved
loop-r-preserved c q lt =
    let kept = c.self.invariant in
    let r = c.loop-r.r in
    let below : r < 64 = omega (arith, c.loop-r-test.true, c.resources-r-end.ensures, kept.flow.shaped.few) in
    let here = subst (λ f. IsComponent (flow_net f) r (slice_index c.self.inside.components r)) c.self.view_is (kept.component_of r below) in
    ⊎_elim
    (λ before. c.loop-r.invariant q before)
    (λ up. let same : q ≡ r = omega arith in subst (IsSmallAt (flow_net c.args.self.now)) (sym same) (small_at (flow_net c.args.self.now) r (slice_index c.self.inside.components r) here c.if-component-gt-MOST_MEMBERS.false))
    (cases_lt q r)

pub returns : goal.returns
returns c r lt = c.loop-r.invariant r (omega (arith, lt, c.loop-r-test.false, c.resources-r-end.ensures ∙ ap (λ f. length f.tokens) c.self.view_is))
