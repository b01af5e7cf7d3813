use Rattle.std.proofs.Common.{refl, arith}
use Rattle.std.proofs.lemmas.Bool.{false≢true, both_ways}
use Rattle.std.proofs.lemmas.Option.{slice_get-get_or}
use Rattle.gadara_net.specs.Flows.{flow_net}
use Rattle.siphon_enum.proofs.Judged.{contains_at, contains_no, none_more}
use Rattle.siphon_enum.proofs.Rows.{siphon_at, siphon_behind}
use Rattle.siphon_enum.proofs.listing.contains_kept.Goals as goal

pub lies_in-requires-clause-one : goal.lies_in-requires-clause-one
lies_in-requires-clause-one g c =
    siphon_at g.S.PlaceSet.places (flow_net c.args.net.now) c.args.sets.now c.args.siphons.now c.args.resources c.requires.siphons c.loop-k.k _ (omega arith) (omega arith) c.index-siphons-k.is

pub lies_in-requires-clause-other : goal.lies_in-requires-clause-other
lies_in-requires-clause-other g c =
    siphon_behind g.S.PlaceSet.places (flow_net c.args.net.now) c.args.sets.now c.args.siphons.now c.args.resources c.requires.siphons _ c.requires.rows c.index-siphons-sets.is

pub loop-k-preserved : goal.loop-k-preserved
loop-k-preserved g c =
    none_more (flow_net c.args.net.now) c.args.sets.now c.args.resources c.loop-k.k c.loop-k.invariant _ (slice_get-get_or c.args.sets.now c.loop-k.k 0 (omega arith)) (λ lies. both_ways _ c.if-lies_in.false (c.lies_in.ensures.1 lies))

pub returns-then-lies_in : goal.returns-then-lies_in
returns-then-lies_in g c = (
  λ _. contains_at (flow_net c.args.net.now) c.args.sets.now c.args.resources c.loop-k.k _ (slice_get-get_or c.args.sets.now c.loop-k.k 0 (omega arith)) (c.lies_in.ensures.0 c.if-lies_in.true),
  λ _. refl,
)

pub returns : goal.returns
returns g c = (
  λ on. absurd (false≢true on),
  λ one. absurd (contains_no (flow_net c.args.net.now) c.args.sets.now c.args.resources (λ k Q lt. c.loop-k.invariant k Q (omega (arith, lt))) one),
)
