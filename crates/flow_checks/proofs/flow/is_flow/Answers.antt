use Rattle.std.proofs.Common.{◌≡◌, ℕ, ◌<◌, ◌≤◌, length, slice_index, slice_get, Some, arith, sym, inl, inr}
use Rattle.edges.specs.declared.Point.{Point}
use Rattle.gadara_net.specs.declared.flow.Flow.{Flow}
use Rattle.gadara_net.specs.Flows.{IsFlow}
use Rattle.flow_checks.specs.Checks.{AreEdges, ArePlaces}
use Rattle.std.proofs.lemmas.Bool.{both_ways}
use Rattle.std.proofs.lemmas.Option.{slice_get_cases, slice_get_within}
use Rattle.flow_checks.proofs.flow.is_flow.Goals as goal

-- what each point has, read at its number
at_point : (P : Point → Type 0) (f : Flow) (p : ℕ) → p < length f.points → ((x : Point) → slice_get f.points p ≡ Some x → P x) → (x : Point) × (slice_get f.points p ≡ Some x) × P x
at_point P f p within each = elim (slice_get_cases f.points p).1 [
  | inl found ↦ (found.0, found.2, each found.0 found.2)
  | inr past ↦ absurd (omega (arith, past.0))
]

flow_from : (f : Flow) → ArePlaces f → AreEdges f → IsFlow f
flow_from f places edges = record {
  net = record {
    accounts = λ e r has. (edges e has).accounts r;
    sole = λ e g r has too same blocked. sym ((edges e has).sole r blocked too.0 g too.1 (sym same));
    taken = λ e r has takes. (edges e has).named.taken r takes;
    given = λ e r has gives. (edges e has).named.given r gives;
    filled = places.resources.tokens.filled;
  };
  shaped = record {
    leads = λ e has. (edges e has).leads;
    of_threads = λ p within.
        let x = at_point (λ x. x.thread < f.threads) f p within (λ x at. (places.points p x at).thread) in
        rw x.1 x.2;
    kinds = places.resources.small.kinds;
    single = λ r below. places.resources.tokens.single r (omega (arith, places.resources.small.kinds)) below;
    few = places.resources.small.few;
  };
  once = λ p r within below.
      let x = at_point (λ x. slice_index x.held r ≤ 1) f p within (λ x at. (places.points p x at).once r below) in
      rw x.1 x.2;
  counts = λ k p at. (places.points k p at).counts;
  few_places = places.resources.small.few_places;
  few_edges = places.resources.small.few_edges;
}

places_of : (f : Flow) → IsFlow f → ArePlaces f
places_of f flow = record {
  resources = record {
    small = record { kinds = flow.shaped.kinds; few = flow.shaped.few; few_places = flow.few_places; few_edges = flow.few_edges };
    tokens = record { filled = flow.net.filled; single = λ r within below. flow.shaped.single r below };
  };
  points = λ k p at. record {
    thread = rw at at (flow.shaped.of_threads k (slice_get_within f.points k p at));
    counts = flow.counts k p at;
    once = λ r below. rw at at (flow.once k r (slice_get_within f.points k p at) below);
  };
}

edges_of : (f : Flow) → IsFlow f → AreEdges f
edges_of f flow e has = record {
  leads = flow.shaped.leads e has;
  named = record { taken = λ r takes. flow.net.taken e r has takes; given = λ r gives. flow.net.given e r has gives };
  accounts = λ r. flow.net.accounts e r has;
  sole = λ r blocked k g at same. sym (flow.net.sole e g r has (k, at) (sym same) blocked);
}

pub returns-then-are_places : goal.returns-then-are_places
returns-then-are_places c =
    let f = c.args.flow.now in
    (λ t. flow_from f (c.are_places.ensures.0 c.if-are_places.true) (c.are_edges.ensures.0 t), λ flow. c.are_edges.ensures.1 (edges_of f flow))

pub returns-else-are_places : goal.returns-else-are_places
returns-else-are_places c =
    let f = c.args.flow.now in
    (λ t. absurd (both_ways _ c.if-are_places.false t), λ flow. c.are_places.ensures.1 (places_of f flow))
