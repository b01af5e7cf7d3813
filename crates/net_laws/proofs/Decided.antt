-- What can be decided of a net: its least siphons, which of them lie in which, and its candidates.
use Rattle.std.proofs.Common.{◌≡◌, ℕ, zero, suc, ◌<◌, ◌^◌, Bool, true, false, not, ◌&&◌, ◌==◌, ◌⊎◌, inl, inr, refl, sym, subst, ⊎_elim, arith}
use Rattle.std.specs.Prelude.{IsTrue, IsFalse}
use Rattle.std.specs.List.{list_any}
use Rattle.std.proofs.lemmas.Bool.{and_parts, and_from, cases_Bool, cases_lt, cases_eq, both_ways, eqb-true, eq-eqb, false≢true, false_from_ne_true}
use Rattle.edges.specs.declared.EdgeOp.{EdgeOp}
use Rattle.edges.specs.declared.EdgeOp.TheVariants.{Plain, Acquire, Try, Reacquire, Release}
use Rattle.edges.specs.declared.Edge.{Edge}
use Rattle.edges.specs.Ops.{takes, gives}
use Rattle.net_laws.specs.Net.{Net, HasEdge, IsShaped}
use Rattle.net_laws.specs.Siphons.{TakesNone, GivesOne, Leads, InSiphon, LiesIn}
use Rattle.net_laws.specs.Candidates.{Reaches, IsCandidate, members}
use Rattle.net_laws.proofs.Graph.{joins, joins_arc, joins_trans, Path, path}
use Rattle.net_laws.proofs.Sums.{any_at, any_from}
use Rattle.net_laws.proofs.Least.{other, given, along, inside}
use Rattle.net_laws.proofs.Masks.{members-below}
use Rattle.net_laws.proofs.Stuck.{within, within-from, within-parts, within-path}

abbrev pub Decided : Type 0 → Type 0
Decided P = P ⊎ (P → ⊥)

pub each_below : (k : ℕ) (P : ℕ → Type 0) → ((i : ℕ) → Decided (P i)) → Decided ((i : ℕ) → i < k → P i)
each_below zero P d = inl (λ i lt. absurd (omega arith))
each_below (suc k) P d =
    ⊎_elim
    (λ before. ⊎_elim
    (λ last. inl (λ i lt. ⊎_elim (λ same. subst P (sym same) last) (λ ne. before i (omega arith)) (cases_eq i k)))
    (λ off. inr (λ all. off (all k (omega arith))))
    (d k))
    (λ off. inr (λ all. off (λ i lt. all i (omega arith))))
    (each_below k P d)

pub some_below : (k : ℕ) (P : ℕ → Type 0) → ((i : ℕ) → Decided (P i)) → Decided ((i : ℕ) × (i < k) × P i)
some_below zero P d = inr (λ s. omega (arith, s.1))
some_below (suc k) P d =
    ⊎_elim
    (λ s. inl (s.0, omega (arith, s.1), s.2))
    (λ none. ⊎_elim
    (λ last. inl (k, omega arith, last))
    (λ off. inr (λ s. ⊎_elim (λ same. off (subst P same s.2)) (λ ne. none (s.0, omega (arith, s.1, ne), s.2)) (cases_eq s.0 k)))
    (d k))
    (some_below k P d)

pub true_or_not : (b : Bool) → Decided (IsTrue b)
true_or_not b = ⊎_elim (λ on. inl on) (λ off. inr (λ on. both_ways b off on)) (cases_Bool b)

pub below_or_not : (a b : ℕ) → Decided (a < b)
below_or_not a b = ⊎_elim (λ lt. inl lt) (λ le. inr (λ lt. omega arith)) (cases_lt a b)

pub both : (P Q : Type 0) → Decided P → Decided Q → Decided (P × Q)
both P Q d e = ⊎_elim (λ p. ⊎_elim (λ q. inl (p, q)) (λ off. inr (λ x. off x.1)) e) (λ off. inr (λ x. off x.0)) d

pub implied : (P Q : Type 0) → Decided P → Decided Q → Decided (P → Q)
implied P Q d e = ⊎_elim (λ p. ⊎_elim (λ q. inl (λ _. q)) (λ off. inr (λ f. off (f p))) e) (λ off. inl (λ p. absurd (off p))) d

-- what an operation takes is in R
takes_member : (ℕ → Bool) → EdgeOp → Bool
takes_member R Plain = false
takes_member R (Acquire q) = R q
takes_member R (Try q) = R q
takes_member R (Reacquire q) = R q
takes_member R (Release q) = false

gives_member : (ℕ → Bool) → EdgeOp → Bool
gives_member R Plain = false
gives_member R (Acquire q) = false
gives_member R (Try q) = false
gives_member R (Reacquire q) = false
gives_member R (Release q) = R q

none_of : (R : ℕ → Bool) (o : EdgeOp) → takes_member R o ≡ false → (r : ℕ) → IsTrue (R r) → IsFalse (takes o r)
unfolding takes_member
none_of R Plain off r in_R = refl
none_of R (Acquire q) off r in_R = other q R r off in_R
none_of R (Try q) off r in_R = other q R r off in_R
none_of R (Reacquire q) off r in_R = other q R r off in_R
none_of R (Release q) off r in_R = refl

not_in : (R : ℕ → Bool) (q : ℕ) → ((r : ℕ) → IsTrue (R r) → IsFalse (q == r)) → R q ≡ false
not_in R q none = false_from_ne_true (R q) (λ on. both_ways (q == q) (none q on) (eq-eqb q q refl))

of_none : (R : ℕ → Bool) (o : EdgeOp) → ((r : ℕ) → IsTrue (R r) → IsFalse (takes o r)) → takes_member R o ≡ false
unfolding takes_member
of_none R Plain none = refl
of_none R (Acquire q) none = not_in R q none
of_none R (Try q) none = not_in R q none
of_none R (Reacquire q) none = not_in R q none
of_none R (Release q) none = refl

one_of : (R : ℕ → Bool) (o : EdgeOp) → gives_member R o ≡ true → (r : ℕ) × IsTrue (R r) × IsTrue (gives o r)
unfolding gives_member
one_of R Plain on = absurd (false≢true on)
one_of R (Acquire q) on = absurd (false≢true on)
one_of R (Try q) on = absurd (false≢true on)
one_of R (Reacquire q) on = absurd (false≢true on)
one_of R (Release q) on = (q, on, eq-eqb q q refl)

of_one : (R : ℕ → Bool) (o : EdgeOp) (r : ℕ) → IsTrue (R r) → IsTrue (gives o r) → gives_member R o ≡ true
unfolding gives_member
of_one R Plain r in_R on = absurd (false≢true on)
of_one R (Acquire q) r in_R on = absurd (false≢true on)
of_one R (Try q) r in_R on = absurd (false≢true on)
of_one R (Reacquire q) r in_R on = absurd (false≢true on)
of_one R (Release q) r in_R on = subst (λ x. R x ≡ true) (sym (eqb-true q r on)) in_R

-- an edge from i to j that takes nothing of R
step_by : (ℕ → Bool) → ℕ → ℕ → Edge → Bool
step_by R i j e = e.from == i && (e.to == j && not (takes_member R e.op))

steps : Net → (ℕ → Bool) → ℕ → ℕ → Bool
steps n R i j = list_any (step_by R i j) n.edges

-- an edge from i that gives one of R
end_by : (ℕ → Bool) → ℕ → Edge → Bool
end_by R i e = e.from == i && gives_member R e.op

ends : Net → (ℕ → Bool) → ℕ → Bool
ends n R i = list_any (end_by R i) n.edges

not_true : (b : Bool) → b ≡ false → not b ≡ true
not_true true off = absurd (false≢true (sym off))
not_true false off = refl

not_false : (b : Bool) → not b ≡ true → b ≡ false
not_false true on = absurd (false≢true on)
not_false false on = refl

step-from : (n : Net) (R : ℕ → Bool) (i : ℕ) (e : Edge) → HasEdge n e → e.from ≡ i → TakesNone R e → steps n R i e.to ≡ true
unfolding steps step_by
step-from n R i e has from none =
    any_at (step_by R i e.to) n.edges has.0 e has.1
    (and_from _ _ (eq-eqb e.from i from) (and_from _ _ (eq-eqb e.to e.to refl) (not_true _ (of_none R e.op none))))

step-edge : (n : Net) (R : ℕ → Bool) (i j : ℕ) → steps n R i j ≡ true → (e : Edge) × HasEdge n e × (e.from ≡ i) × (e.to ≡ j) × TakesNone R e
unfolding steps step_by
step-edge n R i j on =
    let a = any_from (step_by R i j) n.edges on in
    let p = and_parts _ _ a.3 in
    let q = and_parts _ _ p.1 in
    (a.1, (a.0, a.2), eqb-true _ _ p.0, eqb-true _ _ q.0, none_of R a.1.op (not_false _ q.1))

end-from : (n : Net) (R : ℕ → Bool) (i : ℕ) (e : Edge) → HasEdge n e → e.from ≡ i → GivesOne R e → ends n R i ≡ true
unfolding ends end_by
end-from n R i e has from g =
    any_at (end_by R i) n.edges has.0 e has.1 (and_from _ _ (eq-eqb e.from i from) (of_one R e.op g.0 g.1 g.2))

end-in : (n : Net) (R : ℕ → Bool) (i : ℕ) → ends n R i ≡ true → InSiphon n R i
unfolding ends end_by
end-in n R i on =
    let a = any_from (end_by R i) n.edges on in
    let p = and_parts _ _ a.3 in
    subst (InSiphon n R) (eqb-true _ _ p.0) (given n R a.1 (a.0, a.2) (one_of R a.1.op p.1))

step-in : (n : Net) (R : ℕ → Bool) (i j : ℕ) → steps n R i j ≡ true → InSiphon n R j → InSiphon n R i
step-in n R i j on l =
    let e = step-edge n R i j on in
    subst (InSiphon n R) e.2 (along n R e.0 e.1 e.4 (subst (InSiphon n R) (sym e.3) l))

path-in : (n : Net) (R : ℕ → Bool) (k i j : ℕ) → Path (steps n R) i j k → InSiphon n R j → InSiphon n R i
path-in n R zero i j p l = step-in n R i j p l
path-in n R (suc k) i j p l = step-in n R i p.0 p.1 (path-in n R k p.0 j p.2 l)

-- a path is found by looking at the points below N, where each step leads to one of them
joins-path : (a : ℕ → ℕ → Bool) (N : ℕ) → ((i j : ℕ) → a i j ≡ true → j < N) → (k i j : ℕ) → Path a i j k → joins a N i j ≡ true
joins-path a N below zero i j p = joins_arc a N i j p
joins-path a N below (suc k) i j p = joins_trans a N i p.0 j (below i p.0 p.1) (joins_arc a N i p.0 p.1) (joins-path a N below k p.0 j p.2)

step-below : (n : Net) → IsShaped n → (R : ℕ → Bool) (i j : ℕ) → steps n R i j ≡ true → j < n.points
step-below n shaped R i j on = let e = step-edge n R i j on in subst (λ p. p < n.points) e.3 (shaped.leads e.0 e.1).1

-- a point of the least siphon has an edge that gives one of R, or leads to such a point
ends_of : (n : Net) → IsShaped n → (R : ℕ → Bool) (k p : ℕ) → Leads n R p k → (ends n R p ≡ true) ⊎ ((q : ℕ) × (q < n.points) × (joins (steps n R) n.points p q ≡ true) × (ends n R q ≡ true))
ends_of n shaped R zero p l = inl (end-from n R p l.0 l.1 l.2 l.3)
ends_of n shaped R (suc k) p l =
    let to = l.0.to in
    let below = (shaped.leads l.0 l.1).1 in
    let here = joins_arc (steps n R) n.points p to (step-from n R p l.0 l.1 l.2 l.3) in
    ⊎_elim
    (λ end. inr (to, below, here, end))
    (λ r. inr (r.0, r.1, joins_trans (steps n R) n.points p to r.0 below here r.2, r.3))
    (ends_of n shaped R k to l.4)

pub in_siphon : (n : Net) → IsShaped n → (R : ℕ → Bool) (p : ℕ) → Decided (InSiphon n R p)
in_siphon n shaped R p =
    ⊎_elim
    (λ end. inl (end-in n R p end))
    (λ off. ⊎_elim
    (λ s. let r = path (steps n R) n.points p s.0 s.2.0 in inl (path-in n R r.0 p s.0 r.1 (end-in n R s.0 s.2.1)))
    (λ none. inr (λ l. ⊎_elim off (λ r. none (r.0, r.1, (r.2, r.3))) (ends_of n shaped R l.0 p l.1)))
    (some_below n.points (λ q. IsTrue (joins (steps n R) n.points p q) × IsTrue (ends n R q)) (λ q. both _ _ (true_or_not _) (true_or_not _))))
    (true_or_not (ends n R p))

pub lies_in : (n : Net) → IsShaped n → (Q C : ℕ) → Q < 2 ^ 64 → Decided (LiesIn n (members Q) (members C))
lies_in n shaped Q C lt =
    ⊎_elim
    (λ rs. ⊎_elim
    (λ ps. inl (record {
      resources = λ r on. rs r (members-below Q lt r on) on;
      points = λ p l. ⊎_elim (λ below. ps p below l) (λ le. absurd (omega (arith, le, inside n shaped (members Q) p l))) (cases_lt p n.points);
    }))
    (λ off. inr (λ lies. off (λ p below. lies.points p)))
    (each_below n.points (λ p. InSiphon n (members Q) p → InSiphon n (members C) p) (λ p. implied _ _ (in_siphon n shaped (members Q) p) (in_siphon n shaped (members C) p))))
    (λ off. inr (λ lies. off (λ r below. lies.resources r)))
    (each_below 64 (λ r. IsTrue (members Q r) → IsTrue (members C r)) (λ r. implied _ _ (true_or_not _) (true_or_not _)))

reached_path : (n : Net) (C : ℕ → Bool) (k a b : ℕ) → IsTrue (C a) → IsTrue (C b) → Reaches n C a b k → Path (within n C) a b k
reached_path n C zero a b in_a in_b r = within-from n C a b in_a in_b r
reached_path n C (suc k) a b in_a in_b r = (r.0, within-from n C a r.0 in_a r.1 r.2, reached_path n C k r.0 b r.1 in_b r.3)

pub is_candidate : (n : Net) (C : ℕ) → C < 2 ^ 64 → Decided (IsCandidate n (members C))
is_candidate n C lt =
    let M = members C in
    let N = n.resources in
    ⊎_elim
    (λ some. ⊎_elim
    (λ named. ⊎_elim
    (λ joined. inl (record {
      some = (some.0, some.2);
      named = λ r on. named r (members-below C lt r on) on;
      joined = λ a b in_a in_b.
          let p = path (within n M) N a b (joined a (members-below C lt a in_a) b (members-below C lt b in_b) in_a in_b) in
          (p.0, within-path n M M (λ i j in_i e. (within-parts n M i j e).1) p.0 a b in_a p.1);
    }))
    (λ off. inr (λ c. off (λ a lt_a b lt_b in_a in_b.
    let r = c.joined a b in_a in_b in
    joins-path (within n M) N (λ i j e. c.named j (within-parts n M i j e).1) r.0 a b (reached_path n M r.0 a b in_a in_b r.1))))
    (each_below 64 (λ a. (b : ℕ) → b < 64 → IsTrue (M a) → IsTrue (M b) → IsTrue (joins (within n M) N a b))
    (λ a. each_below 64 (λ b. IsTrue (M a) → IsTrue (M b) → IsTrue (joins (within n M) N a b))
    (λ b. implied _ _ (true_or_not _) (implied _ _ (true_or_not _) (true_or_not _))))))
    (λ off. inr (λ c. off (λ r below. c.named r)))
    (each_below 64 (λ r. IsTrue (M r) → r < N) (λ r. implied _ _ (true_or_not _) (below_or_not r N))))
    (λ off. inr (λ c. off (c.some.0, members-below C lt c.some.0 c.some.1, c.some.1)))
    (some_below 64 (λ r. IsTrue (M r)) (λ r. true_or_not _))
