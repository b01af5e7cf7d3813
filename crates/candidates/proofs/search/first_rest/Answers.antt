use Rattle.std.proofs.Common.{sym, subst}
use Rattle.place_sets.specs.Sets.{IsPartOf}
use Rattle.net_laws.specs.Candidates.{members}
use Rattle.candidates.proofs.Bitwise.{below_place}
use Rattle.candidates.proofs.Searching.{has_top, rest_after}
use Rattle.candidates.proofs.search.first_rest.Goals as goal

pub next_subset-requires : goal.next_subset-requires
next_subset-requires c =
    let from = has_top c.args.after c.args.top c.if-after-top-eq0.false in
    subst (λ x. IsPartOf (members x) (members c.args.room)) (sym (below_place c.args.after c.args.top c.requires.top)) (c.requires.rest from).part

pub returns : goal.returns
returns c =
    let from = has_top c.args.after c.args.top c.if-after-top-eq0.false in
    rest_after c.args.room c.args.size c.args.after c.args.top _ c.next_subset.result (below_place c.args.after c.args.top c.requires.top) (from, c.requires.within) (c.requires.rest from) c.next_subset.ensures
