use Rattle.std.proofs.Common.{◌∙◌, sym, subst, inr, arith}
use Rattle.std.proofs.lemmas.Bool.{both_ways}
use Rattle.std.proofs.lemmas.Option.{slice_get_within}
use Rattle.gadara_net.specs.Flows.{flow_net}
use Rattle.candidates.specs.Next.{IsLast, IsNext}
use Rattle.candidates.proofs.Order.{steps_left-falls}
use Rattle.certificate_check.proofs.Covered.{element_at, covered_from, lies_from, covered_next, uncovered_first, covered_all}
use Rattle.certificate_check.proofs.covers.first_uncovered.Goals as goal

pub some_lies_within-requires-clause-sizes : goal.some_lies_within-requires-clause-sizes
some_lies_within-requires-clause-sizes g c k s at =
    let are = c.requires.siphons in
    let l = element_at c.args.lines.now k (omega (arith, slice_get_within c.args.siphons.now k s at, are.each)) in
    (are.are k l.0 s l.1 at).size ∙ sym (c.least_siphon.ensures.size ∙ c.loop-next.invariant.size)

pub returns-then-not-some_lies_within : goal.returns-then-not-some_lies_within
returns-then-not-some_lies_within g c =
    let n = flow_net c.args.net.now in
    let next = subst (λ f. IsNext (flow_net f) c.loop-next.at c.in-Some.next) c.requires.of_net c.in-Some.ensures in
    uncovered_first n c.args.lines.now c.loop-next.at c.in-Some.next c.loop-next.invariant.covered next
    (λ covered. both_ways c.some_lies_within.result c.if-not-some_lies_within.true
    (c.some_lies_within.ensures.1 (lies_from g.S.PlaceSet.bound g.S.PlaceSet.places n c.args.lines.now c.args.siphons.now c.in-Some.next (g.S.PlaceSet.places c.least_siphon.new.out) c.least_siphons_are_sets_of_places.ensures c.requires.siphons c.least_siphon.ensures.places covered)))

pub loop-next-smaller : goal.loop-next-smaller
loop-next-smaller g c =
    let next = subst (λ f. IsNext (flow_net f) c.loop-next.at c.in-Some.next) c.requires.of_net c.in-Some.ensures in
    steps_left-falls c.loop-next.at c.in-Some.next next.is.below next.is.behind

pub loop-next-preserved : goal.loop-next-preserved
loop-next-preserved g c =
    let n = flow_net c.args.net.now in
    let inv = c.loop-next.invariant in
    let next = subst (λ f. IsNext (flow_net f) c.loop-next.at c.in-Some.next) c.requires.of_net c.in-Some.ensures in
    record {
      size = c.least_siphon.ensures.size ∙ inv.size;
      room = c.least_siphon.ensures.room ∙ inv.room;
      start = inr next.is.candidate;
      covered = covered_next n c.args.lines.now c.loop-next.at c.in-Some.next inv.covered next
          (covered_from g.S.PlaceSet.bound g.S.PlaceSet.places n c.args.lines.now c.args.siphons.now c.in-Some.next (g.S.PlaceSet.places c.least_siphon.new.out) c.least_siphons_are_sets_of_places.ensures c.requires.siphons c.least_siphon.ensures.places
          (c.some_lies_within.ensures.0 c.if-not-some_lies_within.false));
    }

pub returns : goal.returns
returns g c =
    let last = subst (λ f. IsLast (flow_net f) c.loop-next.at) c.requires.of_net c.in_default.ensures in
    covered_all (flow_net c.args.net.now) c.args.lines.now c.loop-next.at c.loop-next.invariant.covered last
