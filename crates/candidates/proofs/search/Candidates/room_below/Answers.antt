use Rattle.std.proofs.Common.{◌∙◌, sym, ap, subst}
use Rattle.std.specs.Prelude.{slice_index}
use Rattle.net_laws.specs.Candidates.{IsCandidate, members}
use Rattle.gadara_net.specs.Flows.{flow_net}
use Rattle.candidates.proofs.Numbers.{low_below, low_part, member_below, members_low}
use Rattle.candidates.proofs.Bitwise.{below_place}
use Rattle.candidates.proofs.Inside.{in_component}
use Rattle.candidates.proofs.Searching.{top_member}
use Rattle.candidates.proofs.search.Candidates.room_below.Goals as goal

pub returns-clause-rest : goal.returns-clause-rest
returns-clause-rest c C candidate topped place on =
    let top = c.args.top in
    let rows = c.self.inside.components in
    let here = subst (λ f. IsCandidate (flow_net f) (members C)) (sym c.self.view_is) candidate in
    let inside = in_component (flow_net c.self.inside.net.now) (members C) here top place (top_member C top topped) (low_part C top place on) in
    let lt = member_below _ top place (low_below C top) on in
    ap (λ x. members x place) (below_place (slice_index rows top) top c.requires)
    ∙ members_low (slice_index rows top) top place lt
    ∙ (c.self.invariant.component_of top c.requires place).1 inside
