use Rattle.std.proofs.lemmas.Bool.{both_ways, not-true, not_from_false, false_from_ne_true}
use Rattle.net_laws.specs.Candidates.{members}
use Rattle.gadara_net.specs.Flows.{flow_net}
use Rattle.siphon_enum.proofs.Judged.{minimal_from, contains_none}
use Rattle.siphon_enum.proofs.Rows.{bounded, siphons_more}
use Rattle.siphon_enum.proofs.listing.is_minimal.Goals as goal

pub least_siphon_within-requires-clause-within : goal.least_siphon_within-requires-clause-within
least_siphon_within-requires-clause-within g c =
    let n = flow_net c.args.net.now in
    bounded n n.resources (g.S.PlaceSet.places c.args.union.now) (members c.args.resources) c.requires.singles c.requires.candidate.named

pub contains_kept-requires-clause-siphons : goal.contains_kept-requires-clause-siphons
contains_kept-requires-clause-siphons g c =
    siphons_more g.S.PlaceSet.places (flow_net c.args.net.now) c.args.sets.now c.args.siphons.now c.args.resources _ c.requires.siphons c.least_siphon_within.ensures.places

pub returns-clause-siphons : goal.returns-clause-siphons
returns-clause-siphons g c =
    siphons_more g.S.PlaceSet.places (flow_net c.args.net.now) c.args.sets.now c.args.siphons.now c.args.resources _ c.requires.siphons c.least_siphon_within.ensures.places

pub returns-clause-minimal : goal.returns-clause-minimal
returns-clause-minimal g c =
    let n = flow_net c.args.net.now in
    let R = c.args.resources in
    let sets = c.args.sets.now in (
      λ on. minimal_from n c.keeps_flow.ensures.shaped R sets c.ranges.resources.fits c.requires.candidate c.requires.before (λ one. both_ways _ (not-true _ on) (c.contains_kept.ensures.1 one)),
      λ is. not_from_false _ (false_from_ne_true _ (λ on. contains_none n R sets is c.requires.before (c.contains_kept.ensures.0 on))),
    )
