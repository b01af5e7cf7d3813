use Rattle.std.proofs.Common.{◌≡◌, ◌∙◌, ◌<◌, ◌^◌, length, Err, sym, ap, subst, arith}
use Rattle.std.proofs.lemmas.List.Elements.{All-set}
use Rattle.place_sets.specs.declared.row.BitRow.{BitRow}
use Rattle.gadara_net.specs.Flows.{flow_net}
use Rattle.candidates.specs.Components.{IsFirstLarge, HasSmallComponents}
use Rattle.siphon_enum.specs.declared.minimal.EnumError.TheVariants.{ComponentTooLarge, TooManySiphons}
use Rattle.siphon_enum.specs.Rows.{place_count, HaveSize}
use Rattle.siphon_enum.specs.Listed.{HasMoreMinimal}
use Rattle.siphon_enum.proofs.Further.{not_more}
use Rattle.siphon_enum.proofs.Large.{same_large, not_small}
use Rattle.siphon_enum.proofs.minimal.minimal_siphons.Goals as goal
use Rattle.siphon_enum.proofs.minimal.minimal_siphons.Goals.{In-Some}

-- the component that is too large is a mask
fits : (c : In-Some) → c.in-Some.resources < 2 ^ 64
fits c = let known = rw c.in-Some.is at c.too_large.type_inv in omega arith

first : (c : In-Some) → IsFirstLarge (flow_net c.args.net.now) c.in-Some.resources
first c = subst (λ f. IsFirstLarge (flow_net f) c.in-Some.resources) c.new-candidates.ensures c.in-Some.ensures

pub returns-in-Some-clause-too_large : goal.returns-in-Some-clause-too_large
returns-in-Some-clause-too_large c resources lt = (
  λ e. let same : c.in-Some.resources ≡ resources = cc in subst (IsFirstLarge (flow_net c.args.net.now)) same (first c),
  λ is. ap (λ r. Err (ComponentTooLarge r)) (same_large (flow_net c.args.net.now) c.in-Some.resources resources (fits c) lt (first c) is),
)

pub returns-in-Some-clause-too_many : goal.returns-in-Some-clause-too_many
returns-in-Some-clause-too_many c limit = (
  λ e. cc,
  λ is. absurd (not_small (flow_net c.args.net.now) c.in-Some.resources (fits c) (first c) is.1),
)

pub list-requires-clause-sizes : goal.list-requires-clause-sizes
list-requires-clause-sizes c =
    let n = flow_net c.args.net.now in
    let places = ap (λ r. r.places) c.room.view_is ∙ c.requires in
    let all = subst (λ k. HaveSize (λ (x : BitRow). x.size) k c.room.inside.siphons.items) places c.room.invariant.sizes in
    let same = subst (HaveSize (λ (x : BitRow). x.size) (place_count n)) (sym c.as_mut_slice-siphons.ensures.value) all in
    let within : 0 < length c.as_mut_slice-siphons.result.now = omega (arith, ap length c.as_mut_slice-siphons.ensures.value, c.room.invariant.rows) in
    All-set (λ (x : BitRow). x.size ≡ place_count n) c.as_mut_slice-siphons.result.now 0 c.unite_singles.new.scratch (c.unite_singles.ensures.scratch ∙ same 0 c.index-siphons-0.result within) same

pub returns-then-not-list-clause-too_large : goal.returns-then-not-list-clause-too_large
returns-then-not-list-clause-too_large c resources lt =
    let small = subst (λ f. HasSmallComponents (flow_net f)) c.new-candidates.ensures c.in_default.ensures in
    (λ e. cc, λ is. absurd (not_small (flow_net c.args.net.now) resources lt is small))

pub returns-then-not-list-clause-too_many : goal.returns-then-not-list-clause-too_many
returns-then-not-list-clause-too_many c limit =
    let n = flow_net c.args.net.now in
    let small = subst (λ f. HasSmallComponents (flow_net f)) c.new-candidates.ensures c.in_default.ensures in
    let view : c.room.inside.limit ≡ c.args.room.now.limit = ap (λ r. r.limit) c.room.view_is in (
      λ e.
          let same : c.room.inside.limit ≡ limit = cc in
          (sym same ∙ view, small, subst (HasMoreMinimal n) same c.if-not-list.ensures.listed.1),
      λ is. ap (λ k. Err (TooManySiphons k)) (view ∙ sym is.0),
    )

pub returns-clause-too_large : goal.returns-clause-too_large
returns-clause-too_large c resources lt =
    let small = subst (λ f. HasSmallComponents (flow_net f)) c.new-candidates.ensures c.in_default.ensures in
    (λ e. cc, λ is. absurd (not_small (flow_net c.args.net.now) resources lt is small))

pub returns-clause-too_many : goal.returns-clause-too_many
returns-clause-too_many c limit =
    let n = flow_net c.args.net.now in
    let view : c.room.inside.limit ≡ c.args.room.now.limit = ap (λ r. r.limit) c.room.view_is in (
      λ e. cc,
      λ is. absurd (not_more n c.room.inside.limit c.list.new.sets.items c.if-not-list.ensures.listed c.list.ensures.few (subst (HasMoreMinimal n) (is.0 ∙ sym view) is.2)),
    )
