-- Lines by what the code reads, and which comes first.
use Rattle.std.proofs.Common.{◌≡◌, ℕ, zero, suc, ◌-◌, ◌*◌, ◌<◌, ◌≤◌, Bool, List, [], ◌∷◌, length, Some, refl, sym, ap, ◌∙◌, subst, ⊎_elim, arith, sum_by, mul-zero}
use Rattle.std.specs.Prelude.{◌==◌, if◌then◌else◌, slice_get, slice_index}
use Rattle.std.proofs.lemmas.Option.{slice_get_within}
use Rattle.certificate.specs.declared.LineKind.{LineKind}
use Rattle.certificate.specs.declared.LineKind.TheVariants.{Thread as OfThread, Guard, Monitor, General}
use Rattle.certificate.specs.declared.PartOf.{PartOf}
use Rattle.certificate.specs.declared.PartOf.TheVariants.{Resource, Thread}
use Rattle.edges.specs.declared.Point.{Point}
use Rattle.net_laws.specs.Net.{Net}
use Rattle.net_laws.specs.Shown.{thread_at, held_at}
use Rattle.net_laws.specs.Candidates.{members}
use Rattle.net_laws.specs.Lines.{LineHolds, IsBad, IsSimple, IsOfNet, bound, count_at, held_of, times_of, tokens_of}
use Rattle.gadara_net.specs.declared.flow.Flow.{Flow}
use Rattle.gadara_net.specs.Flows.{flow_net}
use Rattle.gadara_net.specs.Bounds.{point_bound, point_count, IsWithin, IsEarlier, IsFirstKind}
use Rattle.gadara_net.specs.Measured.{AreMeasured}

count_same : (f : Flow) (p : ℕ) (point : Point) → slice_get f.points p ≡ Some point → (of : PartOf) → count_at (flow_net f) of p ≡ point_count point of
count_same f p point at (Resource s) = ap (λ o. held_at o s) at
count_same f p point at (Thread i) = ap (λ o. if thread_at o == i then 1 else 0) at

-- the bound at a point of the net is that at what the code reads
pub bound_same : (f : Flow) (R : ℕ → Bool) (kind : LineKind) (p : ℕ) (point : Point) → slice_get f.points p ≡ Some point → bound (flow_net f) R kind p ≡ point_bound (tokens_of (flow_net f) R) kind point
bound_same f R (OfThread i) p point at = ap (λ o. if thread_at o == i then tokens_of (flow_net f) R - 1 else 0) at
bound_same f R (Guard g) p point at = ap (λ o. (tokens_of (flow_net f) R - 1) * held_at o g) at
bound_same f R (Monitor c) p point at = ap (λ o. held_at o c) at
bound_same f R (General times parts) p point at = ap (λ (h : PartOf → ℕ). sum_by (λ x. x.factor * h x.of) parts) (λ i of. count_same f p point at of i)

element_at : {X : Type 0} (xs : List X) (i : ℕ) → i < length xs → (x : X) × (slice_get xs i ≡ Some x)
element_at [] i lt = absurd (omega (arith, lt))
element_at (x ∷ xs) zero lt = (x, refl)
element_at (x ∷ xs) (suc i) lt = element_at xs i (omega (arith, lt))

-- a line of the net holds where what is read is within the bound
pub holds_from : (f : Flow) (mask tokens : ℕ) (sums : List ℕ) (kind : LineKind) → AreMeasured f mask tokens sums → IsOfNet (flow_net f) (members mask) kind → IsWithin tokens kind f.points sums → LineHolds (flow_net f) (members mask) kind
holds_from f mask tokens sums kind m of_net within = record {
  some = m.some;
  named = m.named;
  of_net = of_net;
  bounded = λ p lt out.
      let x = element_at f.points p lt in
      let w = within p x.0 x.1 in
      let b = bound_same f (members mask) kind p x.0 x.1 in
      ⊎_elim
      (λ inside. absurd (out inside.0))
      (λ o.
      let P : ℕ → Type 0 = λ s. times_of kind * s ≤ bound (flow_net f) (members mask) kind p in
      let Q : ℕ → Type 0 = λ t. times_of kind * slice_index sums p ≤ t in
      subst P o.1 (subst Q (ap (λ t. point_bound t kind x.0) m.total ∙ sym b) w))
      (m.outside.sum p lt);
}

pub within_from : (f : Flow) (mask tokens : ℕ) (sums : List ℕ) (kind : LineKind) → AreMeasured f mask tokens sums → LineHolds (flow_net f) (members mask) kind → IsWithin tokens kind f.points sums
within_from f mask tokens sums kind m holds p point at =
    let lt = slice_get_within f.points p point at in
    let b = bound_same f (members mask) kind p point at in
    let P : ℕ → Type 0 = λ s. times_of kind * s ≤ point_bound tokens kind point in
    ⊎_elim
    (λ inside. subst P (sym inside.1) (omega (arith, mul-zero (times_of kind))))
    (λ o.
    let Q : ℕ → Type 0 = λ t. times_of kind * held_of (flow_net f) (members mask) p ≤ t in
    subst P (sym o.1) (subst Q (b ∙ sym (ap (λ t. point_bound t kind point) m.total)) (holds.bounded p lt o.0)))
    (m.outside.sum p lt)

pub first_thread : (n : Net) (mask i : ℕ) → LineHolds n (members mask) (OfThread i) → ((j : ℕ) → j < i → LineHolds n (members mask) (OfThread j) → ⊥) → IsFirstKind n mask (OfThread i)
first_thread n mask i holds none = record {
  simple = tt;
  holds = holds;
  none = earlier;
}
  where
    earlier : (kind : LineKind) → IsSimple kind → IsEarlier kind (OfThread i) → LineHolds n (members mask) kind → ⊥
    earlier (OfThread j) s e h = none j e h
    earlier (Guard g) s e h = e
    earlier (Monitor c) s e h = e
    earlier (General times parts) s e h = s

pub first_guard : (n : Net) (mask g : ℕ) → ((j : ℕ) → j < n.threads → LineHolds n (members mask) (OfThread j) → ⊥) → LineHolds n (members mask) (Guard g) → ((j : ℕ) → j < g → LineHolds n (members mask) (Guard j) → ⊥) → IsFirstKind n mask (Guard g)
first_guard n mask g threads holds none = record {
  simple = tt;
  holds = holds;
  none = earlier;
}
  where
    earlier : (kind : LineKind) → IsSimple kind → IsEarlier kind (Guard g) → LineHolds n (members mask) kind → ⊥
    earlier (OfThread j) s e h = threads j h.of_net h
    earlier (Guard j) s e h = none j e h
    earlier (Monitor c) s e h = e
    earlier (General times parts) s e h = s

pub first_monitor : (n : Net) (mask c : ℕ) → ((j : ℕ) → j < n.threads → LineHolds n (members mask) (OfThread j) → ⊥) → ((j : ℕ) → j < n.resources → LineHolds n (members mask) (Guard j) → ⊥)
    → LineHolds n (members mask) (Monitor c) → ((j : ℕ) → j < c → LineHolds n (members mask) (Monitor j) → ⊥) → IsFirstKind n mask (Monitor c)
first_monitor n mask c threads guards holds none = record {
  simple = tt;
  holds = holds;
  none = earlier;
}
  where
    earlier : (kind : LineKind) → IsSimple kind → IsEarlier kind (Monitor c) → LineHolds n (members mask) kind → ⊥
    earlier (OfThread j) s e h = threads j h.of_net h
    earlier (Guard j) s e h = guards j h.of_net.0 h
    earlier (Monitor j) s e h = none j e h
    earlier (General times parts) s e h = s

pub none_holds : (n : Net) (mask : ℕ) → ((j : ℕ) → j < n.threads → LineHolds n (members mask) (OfThread j) → ⊥) → ((j : ℕ) → j < n.resources → LineHolds n (members mask) (Guard j) → ⊥)
    → ((j : ℕ) → j < n.resources → LineHolds n (members mask) (Monitor j) → ⊥) → IsBad n mask
none_holds n mask threads guards monitors (OfThread j) s h = threads j h.of_net h
none_holds n mask threads guards monitors (Guard j) s h = guards j h.of_net.0 h
none_holds n mask threads guards monitors (Monitor j) s h = monitors j h.of_net.1 h
none_holds n mask threads guards monitors (General times parts) s h = s
