-- Siphons and lines of a net with a monitor more.
use Rattle.std.proofs.Common.{◌≡◌, ℕ, zero, suc, ◌+◌, ◌-◌, ◌*◌, ◌<◌, ◌≤◌, List, [], ◌∷◌, Bool, true, false, ◌==◌, Some, refl, sym, ap, ◌∙◌, subst, ⊎_elim, arith}
use Rattle.std.specs.Prelude.{slice_get, IsTrue, if◌then◌else◌}
use Rattle.std.proofs.lemmas.Bool.{or_cases, cond-false, eqb-true, false≢true, false_from_ne_true}
use Rattle.std.proofs.lemmas.List.Sums.{sum_by-cons}
use Rattle.edges.specs.declared.EdgeOp.{EdgeOp}
use Rattle.edges.specs.declared.EdgeOp.TheVariants.{Plain, Acquire, Try, Reacquire, Release}
use Rattle.edges.specs.declared.Edge.{Edge}
use Rattle.edges.specs.Ops.{takes, gives}
use Rattle.certificate.specs.declared.LineKind.{LineKind}
use Rattle.certificate.specs.declared.LineKind.TheVariants.{Thread as OfThread, Guard, Monitor, General}
use Rattle.certificate.specs.declared.Part.{Part}
use Rattle.certificate.specs.declared.PartOf.{PartOf}
use Rattle.certificate.specs.declared.PartOf.TheVariants.{Resource, Thread}
use Rattle.net_laws.specs.Net.{Net, HasEdge, one}
use Rattle.net_laws.specs.Siphons.{Leads, InSiphon, TakesNone}
use Rattle.net_laws.specs.Candidates.{IsCandidate}
use Rattle.net_laws.specs.Lines.{total, tokens_of, held_of, count_at, count_of, parts_at, parts_of, IsPartOf, times_of, bound, IsOfNet, LineHolds}
use Rattle.net_laws.proofs.Sums.{total_same}
use Rattle.weight_laws.specs.Flow.{IsFlow}
use Rattle.weight_laws.specs.Weights.{IsMarked, IsMoved}
use Rattle.weight_laws.specs.Inserted.{Origins, is_of, Lifts, IsInserted, IsCounted, IsOld, IsOldKind}
use Rattle.weight_laws.proofs.Capacity.{two}
use Rattle.weight_laws.proofs.Counts.{at_new, at_old}

of_takes : (op : EdgeOp) (c r : ℕ) → is_of op c ≡ true → takes op r ≡ true → r ≡ c
of_takes Plain c r of t = absurd (false≢true t)
of_takes (Acquire q) c r of t = ⊎_elim (λ h. sym (eqb-true q r t) ∙ eqb-true q c h) (λ h. absurd (false≢true h)) (or_cases _ _ of)
of_takes (Try q) c r of t = ⊎_elim (λ h. sym (eqb-true q r t) ∙ eqb-true q c h) (λ h. absurd (false≢true h)) (or_cases _ _ of)
of_takes (Reacquire q) c r of t = ⊎_elim (λ h. sym (eqb-true q r t) ∙ eqb-true q c h) (λ h. absurd (false≢true h)) (or_cases _ _ of)
of_takes (Release q) c r of t = absurd (false≢true t)

project : (n : Net) (m entry : ℕ → ℕ) (capacity : ℕ) (o : Origins) (new : Net) → IsInserted n m entry capacity o new → (Q : ℕ → Bool) → IsOld n Q → (k p : ℕ) → Leads new Q p k → InSiphon n Q (o.origin p)
project n m entry capacity o new ins Q is_old zero p l =
    let e = l.0 in
    let g = l.3 in
    ⊎_elim
    (λ t. absurd (false≢true (subst (λ x. gives x g.0 ≡ true) t.op g.2)))
    (λ x. ⊎_elim
    (λ given.
    let gave : gives (Release n.resources) g.0 ≡ true = subst (λ x. gives x g.0 ≡ true) given.op g.2 in
    let same : n.resources ≡ g.0 = eqb-true n.resources g.0 gave in
    let lt = is_old g.0 g.1 in absurd (omega (arith, same, lt)))
    (λ k. (0, (k.old, k.has, k.from ∙ ap o.origin l.2, (g.0, g.1, subst (λ x. gives x g.0 ≡ true) (sym k.op) g.2))))
    x)
    (ins.edges e l.1)
project n m entry capacity o new ins Q is_old (suc k) p l =
    let e = l.0 in
    let rest = project n m entry capacity o new ins Q is_old k e.to l.4 in
    ⊎_elim
    (λ t. subst (λ x. InSiphon n Q x) (t.same ∙ ap o.origin l.2) rest)
    (λ x. ⊎_elim
    (λ g. subst (λ x. InSiphon n Q x) (g.same ∙ ap o.origin l.2) rest)
    (λ k. let on = subst (λ x. InSiphon n Q x) (sym k.to) rest in
    (suc on.0, (k.old, k.has, k.from ∙ ap o.origin l.2, (λ r in_Q. subst (λ x. takes x r ≡ false) (sym k.op) (l.3 r in_Q)), on.1)))
    x)
    (ins.edges e l.1)

none_of : (n : Net) (Q : ℕ → Bool) → IsOld n Q → (e : Edge) → is_of e.op n.resources ≡ true → TakesNone Q e
none_of n Q is_old e of r in_Q = false_from_ne_true (takes e.op r) (λ t. let same = of_takes e.op n.resources r of t in let lt = is_old r in_Q in omega (arith, same, lt))

released : (n : Net) (o : Origins) (new : Net) (Q : ℕ → Bool) → IsOld n Q → (old : Edge) (r : ℕ) → IsTrue (Q r) → IsTrue (gives old.op r) → (k p : ℕ) → Lifts new o n.resources p old k → Leads new Q p k
released n o new Q is_old old r in_Q gave zero p l = (l.0, l.1, l.2, (r, in_Q, subst (λ x. gives x r ≡ true) (sym l.3) gave))
released n o new Q is_old old r in_Q gave (suc k) p l =
    (l.0, l.1, l.2, none_of n Q is_old l.0 l.3, released n o new Q is_old old r in_Q gave k l.0.to l.4)

over : (n : Net) (o : Origins) (new : Net) → ((e : Edge) → HasEdge new e → (e.from < new.points) × (e.to < new.points)) → (Q : ℕ → Bool) → IsOld n Q → (old : Edge) → TakesNone Q old → ((q : ℕ) → q < new.points → o.origin q ≡ old.to → InSiphon new Q q) → (k p : ℕ) → Lifts new o n.resources p old k → InSiphon new Q p
over n o new leads Q is_old old none on zero p l =
    let rest = on l.0.to (leads l.0 l.1).1 l.4 in
    (suc rest.0, (l.0, l.1, l.2, (λ r in_Q. subst (λ x. takes x r ≡ false) (sym l.3) (none r in_Q)), rest.1))
over n o new leads Q is_old old none on (suc k) p l =
    let rest = over n o new leads Q is_old old none on k l.0.to l.4 in
    (suc rest.0, (l.0, l.1, l.2, none_of n Q is_old l.0 l.3, rest.1))

lift : (n : Net) (m entry : ℕ → ℕ) (capacity : ℕ) (o : Origins) (new : Net) → IsInserted n m entry capacity o new → (Q : ℕ → Bool) → IsOld n Q → (k p : ℕ) → p < new.points → Leads n Q (o.origin p) k → InSiphon new Q p
lift n m entry capacity o new ins Q is_old zero p lt l =
    let way = ins.lifts p l.0 lt l.1 l.2 in
    let g = l.3 in
    (way.0, released n o new Q is_old l.0 g.0 g.1 g.2 way.0 p way.1)
lift n m entry capacity o new ins Q is_old (suc k) p lt l =
    let way = ins.lifts p l.0 lt l.1 l.2 in
    over n o new ins.leads Q is_old l.0 l.3
    (λ q below same. lift n m entry capacity o new ins Q is_old k q below (subst (λ x. Leads n Q x k) (sym same) l.4))
    way.0 p way.1

-- sums over a set of old resources
old_total : (n new : Net) → new.resources ≡ suc n.resources → (Q : ℕ → Bool) → IsOld n Q → (h h' : ℕ → ℕ) → ((r : ℕ) → r < n.resources → h' r ≡ h r) → total new.resources Q h' ≡ total n.resources Q h
old_total n new more Q is_old h h' same =
    let c = n.resources in
    let out : Q c ≡ false = false_from_ne_true (Q c) (λ on. let lt = is_old c on in omega (arith, lt)) in
    let last : total new.resources Q h' ≡ total (suc c) Q h' = ap (λ k. total k Q h') more in
    let split : total (suc c) Q h' ≡ total c Q h' + (if Q c then h' c else 0) = refl in
    omega (arith, last, split, cond-false (Q c) (h' c) 0 out, total_same c Q h' h (λ r lt on. same r lt))

module _ (n : Net) (m entry : ℕ → ℕ) (capacity : ℕ) (o : Origins) (new : Net) (ins : IsInserted n m entry capacity o new) where
  pub same_siphons : (Q : ℕ → Bool) → IsOld n Q → (p : ℕ) → p < new.points → (InSiphon new Q p → InSiphon n Q (o.origin p)) × (InSiphon n Q (o.origin p) → InSiphon new Q p)
  same_siphons Q is_old p lt =
      ((λ l. project n m entry capacity o new ins Q is_old l.0 p l.1), (λ l. lift n m entry capacity o new ins Q is_old l.0 p lt l.1))

  module _ (held : IsCounted n m o new) (Q : ℕ → Bool) (is_old : IsOld n Q) where
    same_held : (p r : ℕ) → p < new.points → r < n.resources → new.held p r ≡ n.held (o.origin p) r
    same_held p r lt small = held p r lt ∙ at_old n m o p r (λ e. omega (arith, e, small))

    pub same_total : (p : ℕ) → p < new.points → held_of new Q p ≡ held_of n Q (o.origin p)
    same_total p lt = old_total n new ins.resources Q is_old (n.held (o.origin p)) (new.held p) (λ r small. same_held p r lt small)

    pub same_tokens : tokens_of new Q ≡ tokens_of n Q
    same_tokens = old_total n new ins.resources Q is_old n.tokens new.tokens ins.tokens

    same_count_at : (p : ℕ) → p < new.points → (of : PartOf) → IsPartOf n of → count_at new of p ≡ count_at n of (o.origin p)
    same_count_at p lt (Resource s) old = same_held p s lt old
    same_count_at p lt (Thread i) old = ap (λ x. if x == i then 1 else 0) (ins.thread_of p)

    same_count_of : (of : PartOf) → IsPartOf n of → count_of new of ≡ count_of n of
    same_count_of (Resource s) old = ins.tokens s old
    same_count_of (Thread i) old = refl

    same_parts_at : (p : ℕ) → p < new.points → (parts : List Part) → ((k : ℕ) (x : Part) → slice_get parts k ≡ Some x → IsPartOf n x.of) → parts_at new parts p ≡ parts_at n parts (o.origin p)
    same_parts_at p lt [] old = refl
    same_parts_at p lt (x ∷ xs) old =
        let here = ap (λ z. x.factor * z) (same_count_at p lt x.of (old 0 x refl)) in
        let rest = same_parts_at p lt xs (λ k y at. old (suc k) y at) in
        omega (arith, here, rest, sum_by-cons (λ y. y.factor * count_at new y.of p) x xs, sum_by-cons (λ y. y.factor * count_at n y.of (o.origin p)) x xs)

    same_parts_of : (parts : List Part) → ((k : ℕ) (x : Part) → slice_get parts k ≡ Some x → IsPartOf n x.of) → parts_of new parts ≡ parts_of n parts
    same_parts_of [] old = refl
    same_parts_of (x ∷ xs) old =
        let here = ap (λ z. x.factor * z) (same_count_of x.of (old 0 x refl)) in
        let rest = same_parts_of xs (λ k y at. old (suc k) y at) in
        omega (arith, here, rest, sum_by-cons (λ y. y.factor * count_of new y.of) x xs, sum_by-cons (λ y. y.factor * count_of n y.of) x xs)

    same_bound : (kind : LineKind) → IsOldKind n kind → (p : ℕ) → p < new.points → bound new Q kind p ≡ bound n Q kind (o.origin p)
    same_bound (OfThread i) old p lt =
        ap (λ t. if new.thread_of p == i then t - 1 else 0) same_tokens
        ∙ ap (λ x. if x == i then tokens_of n Q - 1 else 0) (ins.thread_of p)
    same_bound (Guard g) old p lt = ap (λ t. (t - 1) * new.held p g) same_tokens ∙ ap (λ x. (tokens_of n Q - 1) * x) (same_held p g lt old)
    same_bound (Monitor c) old p lt = same_held p c lt old
    same_bound (General times parts) old p lt = same_parts_at p lt parts old

    part_new : (of : PartOf) → IsPartOf n of → IsPartOf new of
    part_new (Resource s) old = omega (arith, ins.resources, old)
    part_new (Thread i) old = subst (λ k. i < k) (sym ins.threads) old

    of_old : (kind : LineKind) → IsOldKind n kind → IsOfNet new Q kind → IsOfNet n Q kind
    of_old (OfThread i) old x = old
    of_old (Guard g) old x = (old, sym (ins.tokens g old) ∙ x.1)
    of_old (Monitor c) old x = (omega (arith, ins.mutexes, x.0), old, omega (arith, ins.tokens c old, same_tokens, x.2))
    of_old (General times parts) old x =
        (record { named = old; ordered = x.0.ordered }, omega (arith, same_parts_of parts old, ap (λ t. times * t) same_tokens, x.1))

    of_new : (kind : LineKind) → IsOldKind n kind → IsOfNet n Q kind → IsOfNet new Q kind
    of_new (OfThread i) old x = subst (λ k. i < k) (sym ins.threads) x
    of_new (Guard g) old x = (omega (arith, ins.resources, old), ins.tokens g old ∙ x.1)
    of_new (Monitor c) old x = (omega (arith, ins.mutexes, x.0), omega (arith, ins.resources, old), omega (arith, ins.tokens c old, same_tokens, x.2))
    of_new (General times parts) old x =
        (record { named = λ k y at. part_new y.of (old k y at); ordered = x.0.ordered }, omega (arith, same_parts_of parts old, ap (λ t. times * t) same_tokens, x.1))

    pub to_old : (kind : LineKind) → IsOldKind n kind → LineHolds new Q kind → LineHolds n Q kind
    to_old kind old line = record {
      some = line.some;
      named = is_old;
      of_net = of_old kind old line.of_net;
      bounded = λ q lt out.
          let x = ins.old q lt in
          let p = x.0 in
          let le = line.bounded p x.1 (λ inside. out (subst (λ y. InSiphon n Q y) x.2 ((same_siphons Q is_old p x.1).0 inside))) in
          subst (λ y. times_of kind * held_of n Q y ≤ bound n Q kind y) x.2 (omega (arith, le, ap (λ z. times_of kind * z) (same_total p x.1), same_bound kind old p x.1));
    }

    pub to_new : (kind : LineKind) → IsOldKind n kind → LineHolds n Q kind → LineHolds new Q kind
    to_new kind old line = record {
      some = line.some;
      named = λ r on. let lt = is_old r on in omega (arith, lt, ins.resources);
      of_net = of_new kind old line.of_net;
      bounded = λ p lt out.
          let le = line.bounded (o.origin p) (ins.origins p lt) (λ inside. out ((same_siphons Q is_old p lt).1 inside)) in
          omega (arith, le, ap (λ z. times_of kind * z) (same_total p lt), same_bound kind old p lt);
    }

pub new_line : (n : Net) (R S : ℕ → Bool) (m entry : ℕ → ℕ) (o : Origins) (new : Net) → IsFlow n → IsMarked n R S → IsMoved n R S m → IsCandidate n R → IsInserted n m entry (tokens_of n R - 1) o new → IsCounted n m o new → LineHolds new R (Monitor n.resources)
new_line n R S m entry o new flow marked moved candidate ins held =
    let c = n.resources in
    let T = tokens_of n R in
    let tokens = same_tokens n m entry (T - 1) o new ins held R marked.named in
    record {
      some = candidate.some;
      named = λ r on. let lt = marked.named r on in omega (arith, lt, ins.resources);
      of_net = (omega (arith, ins.mutexes, flow.shaped.kinds), omega (arith, ins.resources), omega (arith, ins.new_tokens, tokens, two n R flow candidate));
      bounded = λ p lt out.
          let outside : S (o.origin p) ≡ false = false_from_ne_true (S (o.origin p)) (λ on. out ((same_siphons n m entry (T - 1) o new ins R marked.named p lt).1 ((marked.exact (o.origin p)).0 on))) in
          omega (arith, same_total n m entry (T - 1) o new ins held R marked.named p lt, ap one outside, moved.bound 0 (o.origin p) (o.origin p) refl, held p c lt, at_new n m o p);
    }
