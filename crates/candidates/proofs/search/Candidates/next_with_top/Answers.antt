use Rattle.std.proofs.Common.{◌≡◌, ℕ, ◌+◌, ◌^◌, ◌∙◌, sym, subst, arith, MatchOption}
use Rattle.std.proofs.lemmas.Bool.{both_ways}
use Rattle.net_laws.specs.Candidates.{IsCandidate, members}
use Rattle.gadara_net.specs.Flows.{flow_net}
use Rattle.candidates.specs.Sized.{IsSized, HasTop}
use Rattle.candidates.proofs.Numbers.{members_past}
use Rattle.candidates.proofs.Searching.{IsNextRest, start_choice, rest_small, topped_found, rests_fall, search_begins, search_goes_on}
use Rattle.candidates.proofs.search.Candidates.next_with_top.Goals as goal

pub first_rest-next-requires-clause-rest : goal.first_rest-next-requires-clause-rest
first_rest-next-requires-clause-rest c from =
    start_choice (flow_net c.args.self.now) c.room_below-room.result c.args.top c.args.size c.args.after c.room_below-room.ensures.rest c.requires.start c.requires.within from

pub loop-next-init : goal.loop-next-init
loop-next-init c = search_begins (flow_net c.args.self.now) c.room_below-room.result c.args.size c.args.after c.args.top c.first_rest-next.result c.room_below-room.ensures.rest c.first_rest-next.ensures

pub returns-then-is_candidate : goal.returns-then-is_candidate
returns-then-is_candidate c =
    let n = flow_net c.args.self.now in
    let room = c.room_below-room.result in
    let next = subst (λ o. MatchOption o ((C : ℕ) → IsSized n c.args.size c.args.after C → HasTop C c.args.top → ⊥) (λ rest. IsNextRest n room c.args.size c.args.after c.args.top rest)) c.in-Some.is c.loop-next.invariant in
    let small = rest_small room c.args.top c.in-Some.rest _ c.room_below-room.ensures.below next.choice in
    topped_found n room c.args.size c.args.after c.args.top c.in-Some.rest c.with_member-found.result c.requires.size c.room_below-room.ensures.below c.with_member-found.type_inv
    (c.with_member-found.ensures.number (members_past c.in-Some.rest c.args.top c.args.top small (omega arith))) next (c.is_candidate.ensures.0 c.if-is_candidate.true)

pub loop-next-smaller : goal.loop-next-smaller
loop-next-smaller c = rests_fall c.room_below-room.result c.in-Some.rest c.loop-next.next c.next_subset-next.result c.in-Some.is c.next_subset-next.ensures

pub loop-next-preserved : goal.loop-next-preserved
loop-next-preserved c =
    let n = flow_net c.args.self.now in
    let room = c.room_below-room.result in
    let next = subst (λ o. MatchOption o ((C : ℕ) → IsSized n c.args.size c.args.after C → HasTop C c.args.top → ⊥) (λ rest. IsNextRest n room c.args.size c.args.after c.args.top rest)) c.in-Some.is c.loop-next.invariant in
    let small = rest_small room c.args.top c.in-Some.rest _ c.room_below-room.ensures.below next.choice in
    let is = c.with_member-found.ensures.number (members_past c.in-Some.rest c.args.top c.args.top small (omega arith)) ∙ swapped c.in-Some.rest (2 ^ c.args.top) in
    search_goes_on n room c.args.size c.args.after c.args.top c.in-Some.rest c.next_subset-next.result c.room_below-room.ensures.rest next
    (λ candidate. both_ways c.is_candidate.result c.if-is_candidate.false (c.is_candidate.ensures.1 (subst (λ x. IsCandidate n (members x)) (sym is) candidate)))
    c.next_subset-next.ensures
  where
    swapped : (a b : ℕ) → a + b ≡ b + a
    swapped a b = omega arith
