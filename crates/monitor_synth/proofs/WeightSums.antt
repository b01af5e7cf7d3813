-- Weights of points by what the calls read.
use Rattle.std.proofs.Common.{◌≡◌, ℕ, ◌-◌, ◌<◌, ◌≤◌, Bool, ◌&&◌, List, length, sum_by, ap, ⊎_elim, inl, arith}
use Rattle.std.specs.Prelude.{IsTrue, ◌↔◌, nat_lt, slice_index}
use Rattle.std.proofs.lemmas.Bool.{cases_lt, and_parts, and_from, ltb-true, lt-ltb}
use Rattle.std.proofs.lemmas.List.{get_or_past}
use Rattle.std.proofs.lemmas.Option.{slice_get_past}
use Rattle.net_laws.specs.Net.{one}
use Rattle.net_laws.specs.Shown.{held_at}
use Rattle.net_laws.specs.Siphons.{HasPlace}
use Rattle.net_laws.specs.Candidates.{members}
use Rattle.net_laws.specs.Lines.{total}
use Rattle.net_laws.proofs.Least.{inside}
use Rattle.gadara_net.specs.declared.flow.Flow.{Flow}
use Rattle.gadara_net.specs.Flows.{IsFlow, NamesResources, flow_net}
use Rattle.weight_laws.specs.Weights.{IsMarked}
use Rattle.weight_laws.proofs.Capacity.{total_none}
use Rattle.monitor_synth.specs.Weighed.{AreWeights}

abbrev Shows : Flow → ℕ → (ℕ → Bool) → Type 0
Shows f mask places = (place : ℕ) → IsTrue (places place) ↔ HasPlace (flow_net f) (members mask) place

-- the points among the places
abbrev pub points_in : Flow → (ℕ → Bool) → ℕ → Bool
points_in f places p = nat_lt p (length f.points) && places p

marked : (f : Flow) (mask : ℕ) (places : ℕ → Bool) → IsFlow f → NamesResources f mask → Shows f mask places → IsMarked (flow_net f) (members mask) (points_in f places)
marked f mask places is named shows = record {
  named = named;
  exact = λ p. (
    (λ on.
        let parts = and_parts _ _ on in
        let lt : p < length f.points = ltb-true p (length f.points) parts.0 in
        ⊎_elim (λ point. point.1) (λ resource. absurd (omega (arith, lt, resource.2))) ((shows p).0 parts.1)),
    (λ into.
        let lt = inside (flow_net f) is.shaped (members mask) p into in
        and_from _ _ (lt-ltb p (length f.points) lt) ((shows p).1 (inl (lt, into)))),
  );
}

-- nothing is held where there is no point
none_held : (f : Flow) (p r : ℕ) → length f.points ≤ p → (flow_net f).held p r ≡ 0
none_held f p r le = ap (λ o. held_at o r) (slice_get_past f.points p le)

-- numbers that are sums over the members, less one at places of the least siphon, are the weights
pub weighed : (f : Flow) (mask : ℕ) (places : ℕ → Bool) (list w : List ℕ) → IsFlow f → NamesResources f mask → Shows f mask places → ((g : ℕ → ℕ) → sum_by g list ≡ total (length f.tokens) (members mask) g)
    → length w ≡ length f.points → ((p : ℕ) → p < length f.points → slice_index w p ≡ sum_by (λ r. (flow_net f).held p r) list - one (places p)) → AreWeights (flow_net f) (members mask) (slice_index w)
weighed f mask places list w is named shows sums each numbers = record {
  marks = points_in f places;
  marked = marked f mask places is named shows;
  exact = λ p.
      ⊎_elim
      (λ lt.
      let same : points_in f places p ≡ places p = ap (λ b. b && places p) (lt-ltb p (length f.points) lt) in
      omega (arith, numbers p lt, sums (λ r. (flow_net f).held p r), ap one same))
      (λ le.
      omega (arith, get_or_past w p 0 (omega (arith, le, each)), total_none (length f.tokens) (members mask) ((flow_net f).held p) (λ r. none_held f p r le)))
      (cases_lt p (length f.points));
}
