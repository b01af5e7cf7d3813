-- General lines of simple ones.
use Rattle.std.proofs.Common.{◌≡◌, ℕ, zero, suc, ◌-◌, ◌*◌, ◌<◌, ◌≤◌, Bool, true, false, [], ◌∷◌, Some, sym, subst, arith, sum_by, mul-zero}
use Rattle.std.specs.Prelude.{◌==◌, if◌then◌else◌, slice_get, IsTrue}
use Rattle.std.proofs.lemmas.Option.{same_Some}
use Rattle.std.proofs.lemmas.List.Sums.{sum_by-cons}
use Rattle.certificate.specs.declared.LineKind.{LineKind}
use Rattle.certificate.specs.declared.LineKind.TheVariants.{Thread as OfThread, Guard, Monitor, General}
use Rattle.certificate.specs.declared.Part.{Part}
use Rattle.certificate.specs.declared.PartOf.{PartOf}
use Rattle.certificate.specs.declared.PartOf.TheVariants.{Resource, Thread}
use Rattle.net_laws.specs.Net.{Net, IsNet}
use Rattle.net_laws.specs.Siphons.{InSiphon}
use Rattle.net_laws.specs.Lines.{LineHolds, IsPartOf, ArePartsOf, count_at, count_of, parts_at, parts_of, held_of, tokens_of}
use Rattle.net_laws.proofs.Sums.{total_positive}
use Rattle.gadara_net.specs.Bounds.{part_list, general_kind}

one_sum : (f : Part → ℕ) (x : Part) → sum_by f (x ∷ []) ≡ f x
one_sum f x = omega (arith, sum_by-cons f x [])

at_one : (n : Net) (of : PartOf) (k p : ℕ) → parts_at n (part_list of k) p ≡ k * count_at n of p
at_one n of zero p = omega arith
at_one n of (suc k) p = one_sum (λ x. x.factor * count_at n x.of p) (record { of = of; factor = suc k })

of_one : (n : Net) (of : PartOf) (k : ℕ) → parts_of n (part_list of k) ≡ k * count_of n of
of_one n of zero = omega arith
of_one n of (suc k) = one_sum (λ x. x.factor * count_of n x.of) (record { of = of; factor = suc k })

one_named : (n : Net) (of : PartOf) (k : ℕ) → IsPartOf n of → ArePartsOf n (part_list of k)
one_named n of zero is = record {
  named = λ j x at. absurd (cc at);
  ordered = λ j x y at next. absurd (cc at);
}
one_named n of (suc k) is = record { named = each; ordered = λ j x y at next. absurd (cc next) }
  where
    each : (j : ℕ) (x : Part) → slice_get (part_list of (suc k)) j ≡ Some x → IsPartOf n x.of
    each zero x at = subst (λ y. IsPartOf n y.of) (same_Some _ x at) is
    each (suc j) x at = absurd (cc at)

-- a general line of one part
single : (n : Net) (R : ℕ → Bool) (of : PartOf) (k : ℕ) → (r : ℕ) × IsTrue (R r) → ((r : ℕ) → IsTrue (R r) → r < n.resources) → IsPartOf n of → k * count_of n of < tokens_of n R
    → ((p : ℕ) → p < n.points → (InSiphon n R p → ⊥) → 1 * held_of n R p ≤ k * count_at n of p) → LineHolds n R (General 1 (part_list of k))
single n R of k some named is fewer within = record {
  some = some;
  named = named;
  of_net = (one_named n of k is, omega (arith, fewer, of_one n of k));
  bounded = λ p lt out. omega (arith, within p lt out, at_one n of k p);
}

scaled : (b : Bool) (k : ℕ) → (if b then k else 0) ≡ k * (if b then 1 else 0)
scaled true k = omega arith
scaled false k = omega (arith, mul-zero k)

some_tokens : (n : Net) (R : ℕ → Bool) (kind : LineKind) → IsNet n → LineHolds n R kind → 0 < tokens_of n R
some_tokens n R kind is h = total_positive n.resources R n.tokens h.some.0 (h.named h.some.0 h.some.1) h.some.1 (is.filled h.some.0 (h.named h.some.0 h.some.1))

-- the general line of a line that holds, holds
pub general_holds : (n : Net) (R : ℕ → Bool) (kind : LineKind) → IsNet n → LineHolds n R kind → LineHolds n R (general_kind (tokens_of n R) kind)
general_holds n R (OfThread i) is h =
    single n R (Thread i) (tokens_of n R - 1) h.some h.named h.of_net (omega (arith, some_tokens n R (OfThread i) is h))
    (λ p lt out. subst (λ b. 1 * held_of n R p ≤ b) (scaled (n.thread_of p == i) (tokens_of n R - 1)) (h.bounded p lt out))
general_holds n R (Guard g) is h =
    single n R (Resource g) (tokens_of n R - 1) h.some h.named h.of_net.0
    (subst (λ t. (tokens_of n R - 1) * t < tokens_of n R) (sym h.of_net.1) (omega (arith, some_tokens n R (Guard g) is h)))
    h.bounded
general_holds n R (Monitor c) is h =
    single n R (Resource c) 1 h.some h.named h.of_net.1 (omega (arith, h.of_net.2)) (λ p lt out. omega (arith, h.bounded p lt out))
general_holds n R (General times parts) is h = h
