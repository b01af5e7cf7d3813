-- A line that holds for a set whose least siphon is emptied can't be.
use Rattle.std.proofs.Common.{◌≡◌, ℕ, suc, ◌+◌, ◌-◌, ◌*◌, ◌<◌, ◌≤◌, Bool, List, [], ◌∷◌, Some, refl, ap, ◌∙◌, arith}
use Rattle.std.specs.Prelude.{slice_get, sum_by, IsTrue}
use Rattle.std.proofs.lemmas.List.Sums.{sum_by-cons}
use Rattle.std.proofs.Math.Nat.{mul-le-mul_left}
use Rattle.certificate.specs.declared.LineKind.{LineKind}
use Rattle.certificate.specs.declared.LineKind.TheVariants.{Thread as OfThread, Guard, Monitor, General}
use Rattle.certificate.specs.declared.Part.{Part}
use Rattle.certificate.specs.declared.PartOf.{PartOf}
use Rattle.certificate.specs.declared.PartOf.TheVariants.{Resource, Thread}
use Rattle.net_laws.specs.Net.{Net, IsNet}
use Rattle.net_laws.specs.Siphons.{InSiphon, LiesIn}
use Rattle.net_laws.specs.Lines.{tokens_of, held_of, count_at, count_of, parts_at, parts_of, IsPartOf, times_of, bound, IsOfNet, LineHolds}
use Rattle.net_laws.specs.Markings.{total_held, IsMarking, IsStuck, IsWanted}
use Rattle.net_laws.proofs.Sums.{sum_le, sum_plus, sum_zero, scaled, one_of, swapped, total_same, total_positive}
use Rattle.net_laws.proofs.Stuck.{no_thread}

-- what a part counts at the points of a marking is at most what it counts in all
counted : (n : Net) (m : List ℕ) → IsMarking n m → (of : PartOf) → IsPartOf n of → sum_by (count_at n of) m ≤ count_of n of
counted n m marking (Resource s) named = marking.fits s named
counted n m marking (Thread i) named = one_of n.thread_of i 0 1 m (λ k p at. omega (arith, (marking.stands k p at).1))

parts_below : (n : Net) (m : List ℕ) → IsMarking n m → (parts : List Part) → ((k : ℕ) (x : Part) → slice_get parts k ≡ Some x → IsPartOf n x.of) → sum_by (parts_at n parts) m ≤ parts_of n parts
parts_below n m marking [] named = omega (arith, sum_zero m)
parts_below n m marking (x ∷ xs) named =
    let f : ℕ → ℕ = λ p. x.factor * count_at n x.of p in
    let both = sum_le (parts_at n (x ∷ xs)) (λ p. f p + parts_at n xs p) m (λ k p at. omega (arith, sum_by-cons (λ y. y.factor * count_at n y.of p) x xs)) in
    let few = mul-le-mul_left x.factor (counted n m marking x.of (named 0 x refl)) in
    omega (
      arith,
      both,
      sum_plus f (parts_at n xs) m,
      scaled x.factor (count_at n x.of) m,
      few,
      parts_below n m marking xs (λ k y at. named (suc k) y at),
      sum_by-cons (λ y. y.factor * count_of n y.of) x xs,
    )

-- the bounds of a line sum to less than the tokens of its set, as often as the line counts them
bounds_below : (n : Net) (m : List ℕ) (R : ℕ → Bool) (kind : LineKind) → IsMarking n m → IsOfNet n R kind → 0 < tokens_of n R → sum_by (bound n R kind) m < times_of kind * tokens_of n R
bounds_below n m R (OfThread i) marking of_net some =
    omega (arith, one_of n.thread_of i 0 (tokens_of n R - 1) m (λ k p at. omega (arith, (marking.stands k p at).1)))
bounds_below n m R (Guard g) marking of_net some =
    let few : total_held n m g ≤ 1 = omega (arith, marking.fits g of_net.0, of_net.1) in
    omega (arith, scaled (tokens_of n R - 1) (λ p. n.held p g) m, mul-le-mul_left (tokens_of n R - 1) few)
bounds_below n m R (Monitor c) marking of_net some = omega (arith, marking.fits c of_net.1, of_net.2)
bounds_below n m R (General times parts) marking of_net some = omega (arith, parts_below n m marking parts of_net.0.named, of_net.1)

-- where no thread stands in the least siphon of R and no token of R is free, no line for R holds
pub emptied : (n : Net) (m : List ℕ) (R : ℕ → Bool) (kind : LineKind) → IsNet n → IsMarking n m → LineHolds n R kind → ((t p : ℕ) → slice_get m t ≡ Some p → InSiphon n R p → ⊥) → ((r : ℕ) → IsTrue (R r) → total_held n m r ≡ n.tokens r) → ⊥
emptied n m R kind net marking line no_thread none_free =
    let N = n.resources in
    let d = times_of kind in
    let le = sum_le (λ p. d * held_of n R p) (bound n R kind) m (λ t p at. line.bounded p (marking.stands t p at).0 (no_thread t p at)) in
    let all : sum_by (held_of n R) m ≡ tokens_of n R =
    swapped N R n.held m ∙ total_same N R (total_held n m) n.tokens (λ r lt in_R. none_free r in_R) in
    let some : 0 < tokens_of n R = let r = line.some in total_positive N R n.tokens r.0 (line.named r.0 r.1) r.1 (net.filled r.0 (line.named r.0 r.1)) in
    omega (arith, le, scaled d (held_of n R) m, ap (λ z. d * z) all, bounds_below n m R kind marking line.of_net some)

-- a stuck set leaves no line for a set whose least siphon lies in that of what it is blocked for
pub no_line : (n : Net) (m : List ℕ) (T R Q : ℕ → Bool) (kind : LineKind) → IsNet n → IsMarking n m → IsStuck n m T → IsWanted n m T R → LineHolds n Q kind → LiesIn n Q R → ⊥
no_line n m T R Q kind net marking stuck wants line lies =
    emptied n m Q kind net marking line
    (λ t p at inside. no_thread n m T R net stuck wants t p at (lies.points p inside))
    (λ r in_Q. ((wants r).0 (lies.resources r in_Q)).2.none_free)
