use Rattle.std.proofs.Common.{◌<◌, length, sym, subst, arith}
use Rattle.std.proofs.lemmas.Bool.{both_ways}
use Rattle.gadara_net.specs.Flows.{flow_net}
use Rattle.siphon_enum.specs.Kept.{AreMinimalBefore, AreMinimalUpTo}
use Rattle.siphon_enum.proofs.Further.{kept_dropped, kept_more, up_to_dropped, up_to_kept}
use Rattle.siphon_enum.proofs.listing.keep.Goals as goal

pub is_minimal-requires-clause-before : goal.is_minimal-requires-clause-before
is_minimal-requires-clause-before g c =
    subst (AreMinimalBefore (flow_net c.args.net.now) c.args.resources) (sym c.as_slice.ensures.value) c.requires.before

pub returns-then-not-is_minimal-clause-kept : goal.returns-then-not-is_minimal-clause-kept
returns-then-not-is_minimal-clause-kept g c =
    kept_dropped g.S.PlaceSet.bound g.S.PlaceSet.places (flow_net c.args.net.now) c.args.limit c.args.sets.now.items c.args.siphons.now c.is_minimal.new.siphons c.args.resources _ c.as_slice.ensures.value c.requires.kept c.is_minimal.ensures.sizes c.is_minimal.auto.siphons c.is_minimal.ensures.siphons

pub returns-then-not-is_minimal-clause-within : goal.returns-then-not-is_minimal-clause-within
returns-then-not-is_minimal-clause-within g c =
    up_to_dropped (flow_net c.args.net.now) c.args.resources c.args.sets.now.items (λ is. both_ways _ c.if-not-is_minimal.true (c.is_minimal.ensures.minimal.1 is)) c.requires.before

pub returns-then-len-limit-clause-kept : goal.returns-then-len-limit-clause-kept
returns-then-len-limit-clause-kept g c =
    kept_dropped g.S.PlaceSet.bound g.S.PlaceSet.places (flow_net c.args.net.now) c.args.limit c.args.sets.now.items c.args.siphons.now c.is_minimal.new.siphons c.args.resources _ c.as_slice.ensures.value c.requires.kept c.is_minimal.ensures.sizes c.is_minimal.auto.siphons c.is_minimal.ensures.siphons

pub returns-clause-kept : goal.returns-clause-kept
returns-clause-kept g c =
    let within : length c.args.sets.now.items < c.args.limit = omega (arith, c.requires.kept.few, c.args.sets.now.ok.0, c.len.ensures, c.if-len-limit.false) in
    kept_more g.S.PlaceSet.bound g.S.PlaceSet.places (flow_net c.args.net.now) c.args.limit c.args.sets.now.items c.args.siphons.now c.is_minimal.new.siphons c.args.resources _ c.as_slice.ensures.value c.requires.kept c.is_minimal.ensures.sizes c.is_minimal.auto.siphons c.is_minimal.ensures.siphons within c.requires.before c.push.new.sets.items c.push.ensures.sets

pub returns-clause-within : goal.returns-clause-within
returns-clause-within g c =
    subst (AreMinimalUpTo (flow_net c.args.net.now) c.args.resources) (sym c.push.ensures.sets) (up_to_kept (flow_net c.args.net.now) c.args.resources c.args.sets.now.items (c.is_minimal.ensures.minimal.0 c.if-not-is_minimal.false) c.requires.before)
