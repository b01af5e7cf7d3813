-- A stuck set empties the least siphon of what it is blocked for.
use Rattle.std.proofs.Common.{◌≡◌, ℕ, zero, suc, ◌<◌, List, Bool, true, ◌&&◌, ◌==◌, Some, refl, sym, ap, ◌∙◌, subst, arith}
use Rattle.std.specs.Prelude.{slice_get, nat_lt, IsTrue}
use Rattle.std.specs.List.{list_any}
use Rattle.std.proofs.lemmas.Bool.{and_parts, and_from, false_from_ne_true, both_ways, lt-ltb, eqb-true, eq-eqb}
use Rattle.std.proofs.lemmas.Option.{same_Some}
use Rattle.edges.specs.declared.Edge.{Edge}
use Rattle.edges.specs.Ops.{takes, blocks}
use Rattle.net_laws.specs.Net.{Net, HasEdge, IsNet}
use Rattle.net_laws.specs.Siphons.{Leads, InSiphon, LiesIn}
use Rattle.net_laws.specs.Candidates.{arc, Reaches, IsCandidate}
use Rattle.net_laws.specs.Markings.{total_held, IsMarking, Blocked, IsStuck, IsWanted}
use Rattle.net_laws.proofs.Graph.{joins, joins_arc, joins_trans, Path, path, joins_within, top}
use Rattle.net_laws.proofs.Sums.{any_at, any_from, positive}
use Rattle.net_laws.proofs.Least.{blocks-takes, takes_first, holds}

-- an edge of the net, from a point of a thread of the set, where the thread is blocked for the resource
wanted_by : Net → List ℕ → (ℕ → Bool) → ℕ → Edge → Bool
wanted_by n m T r e = blocks e.op r && (T (n.thread_of e.from) && (list_any (λ p. p == e.from) m && (total_held n m r == n.tokens r)))

-- what the set is blocked for
pub wanted : Net → List ℕ → (ℕ → Bool) → ℕ → Bool
wanted n m T r = list_any (wanted_by n m T r) n.edges

pub wanted-is : (n : Net) (m : List ℕ) (T : ℕ → Bool) → IsMarking n m → IsWanted n m T (wanted n m T)
unfolding wanted wanted_by
wanted-is n m T marking r = (
  (λ w.
      let a = any_from (wanted_by n m T r) n.edges w in
      let e = a.1 in
      let p = and_parts _ _ a.3 in
      let q = and_parts _ _ p.1 in
      let s = and_parts _ _ q.1 in
      let b = any_from (λ p. p == e.from) m s.0 in
      let at : slice_get m b.0 ≡ Some e.from = b.2 ∙ ap Some (eqb-true b.1 e.from b.3) in (
        b.0,
        subst (λ t. T t ≡ true) (marking.stands b.0 e.from at).1 q.0,
        record { edge = e; has = (a.0, a.2); stands = at; blocks = p.0; none_free = eqb-true _ _ s.1 },
      )),
  (λ w.
      let t = w.0 in let b = w.2 in let e = b.edge in
      any_at (wanted_by n m T r) n.edges b.has.0 e b.has.1
      (and_from _ _ b.blocks
      (and_from _ _ (subst (λ t. T t ≡ true) (sym (marking.stands t e.from b.stands).1) w.1)
      (and_from _ _ (any_at (λ p. p == e.from) m t e.from b.stands (eq-eqb e.from e.from refl))
      (eq-eqb _ _ b.none_free))))),
)

-- a thread that is blocked for one of R stands outside the least siphon of R
blocked_outside : (n : Net) → IsNet n → (R : ℕ → Bool) (m : List ℕ) (t r p : ℕ) → Blocked n m t r → IsTrue (R r) → slice_get m t ≡ Some p → InSiphon n R p → ⊥
blocked_outside n net R m t r p b in_R at =
    let here : b.edge.from ≡ p = same_Some _ _ (sym b.stands ∙ at) in
    takes_first n R p (λ f has from.
    let same : b.edge ≡ f = net.sole b.edge f r b.has has (here ∙ sym from) b.blocks in
    (r, in_R, subst (λ e. IsTrue (takes e.op r)) same (blocks-takes b.edge.op r b.blocks)))

pub no_thread : (n : Net) (m : List ℕ) (T R : ℕ → Bool) → IsNet n → IsStuck n m T → IsWanted n m T R → (t p : ℕ) → slice_get m t ≡ Some p → InSiphon n R p → ⊥
no_thread n m T R net stuck wants t p at l =
    let h = holds n net R l.0 p l.1 in
    let w = (wants h.0).0 h.1 in
    let in_T = stuck.inside w.0 h.0 t p w.1 w.2 at h.2 in
    let b = stuck.blocked t in_T in
    blocked_outside n net R m t b.0 p b.1 ((wants b.0).1 (t, in_T, b.1)) at l

named : (n : Net) (m : List ℕ) (T R : ℕ → Bool) → IsNet n → IsWanted n m T R → (r : ℕ) → IsTrue (R r) → r < n.resources
named n m T R net wants r in_R = let b = ((wants r).0 in_R).2 in net.taken b.edge r b.has (blocks-takes b.edge.op r b.blocks)

pub arc_from : (n : Net) (e : Edge) (r s : ℕ) → HasEdge n e → 0 < n.held e.from r → IsTrue (takes e.op s) → IsTrue (arc n r s)
arc_from n e r s has lt t = any_at (λ e. nat_lt 0 (n.held e.from r) && takes e.op s) n.edges has.0 e has.1 (and_from _ _ (lt-ltb _ _ lt) t)

-- each of R has an arc to one of R
next_arc : (n : Net) (m : List ℕ) (T R : ℕ → Bool) → IsNet n → IsStuck n m T → IsWanted n m T R → (r : ℕ) → IsTrue (R r) → (s : ℕ) × IsTrue (R s) × IsTrue (arc n r s)
next_arc n m T R net stuck wants r in_R =
    let w = (wants r).0 in_R in
    let some : 0 < total_held n m r = omega (arith, w.2.none_free, net.filled r (named n m T R net wants r in_R)) in
    let u = positive (λ p. n.held p r) m some in
    let in_T = stuck.inside w.0 r u.0 u.1 w.1 w.2 u.2 u.3 in
    let b = stuck.blocked u.0 in_T in
    let same : u.1 ≡ b.1.edge.from = same_Some u.1 b.1.edge.from (cc (u.2, b.1.stands)) in
    let held : 0 < n.held b.1.edge.from r = subst (λ p. 0 < n.held p r) {y = b.1.edge.from} same u.3 in
    (b.0, (wants b.0).1 (u.0, in_T, b.1), arc_from n b.1.edge r b.0 b.1.has held (blocks-takes b.1.edge.op b.0 b.1.blocks))

-- where no arc within R leaves C, a path that takes nothing of C takes nothing of R
stays : (n : Net) → IsNet n → (C R : ℕ → Bool) → ((r : ℕ) → IsTrue (C r) → IsTrue (R r)) → ((r s : ℕ) → IsTrue (C r) → IsTrue (R s) → IsTrue (arc n r s) → IsTrue (C s)) → (k p : ℕ) → Leads n C p k → Leads n R p k
stays n net C R inside closed zero p l = let g = l.3 in (l.0, l.1, l.2, (g.0, inside g.0 g.1, g.2))
stays n net C R inside closed (suc k) p l =
    let e = l.0 in
    let h = holds n net C (suc k) p l in
    let held : 0 < n.held e.from h.0 = subst (λ q. 0 < n.held q h.0) (sym l.2) h.2 in
    (e, l.1, l.2, (λ s in_R. false_from_ne_true _ (λ t. both_ways _ (l.3 s (closed h.0 s h.1 in_R (arc_from n e h.0 s l.1 held t))) t)), stays n net C R inside closed k e.to l.4)

-- the arcs within R
pub within : Net → (ℕ → Bool) → ℕ → ℕ → Bool
within n R i j = R i && (R j && arc n i j)

pub within-from : (n : Net) (R : ℕ → Bool) (i j : ℕ) → IsTrue (R i) → IsTrue (R j) → IsTrue (arc n i j) → within n R i j ≡ true
unfolding within
within-from n R i j p q e = and_from _ _ p (and_from _ _ q e)

pub within-parts : (n : Net) (R : ℕ → Bool) (i j : ℕ) → within n R i j ≡ true → IsTrue (R i) × IsTrue (R j) × IsTrue (arc n i j)
unfolding within
within-parts n R i j e = let p = and_parts _ _ e in let q = and_parts _ _ p.1 in (p.0, q.0, q.1)

pub within-path : (n : Net) (R C : ℕ → Bool) → ((i j : ℕ) → IsTrue (C i) → within n R i j ≡ true → IsTrue (C j)) → (k i j : ℕ) → IsTrue (C i) → Path (within n R) i j k → Reaches n C i j k
within-path n R C closed zero i j in_C p = (within-parts n R i j p).2
within-path n R C closed (suc k) i j in_C p =
    let next = closed i p.0 in_C p.1 in
    (p.0, next, (within-parts n R i p.0 p.1).2, within-path n R C closed k p.0 j next p.2)

-- the members that are reached from a top are a candidate, and no arc within R leaves them
candidate : (n : Net) → IsNet n → (R : ℕ → Bool) → ((r : ℕ) → IsTrue (R r) → r < n.resources) → ((r : ℕ) → IsTrue (R r) → (s : ℕ) × IsTrue (R s) × IsTrue (arc n r s)) → (r : ℕ) → IsTrue (R r) → (C : ℕ → Bool) × IsCandidate n C × LiesIn n C R
candidate n net R below on r0 in_r0 =
    let a = within n R in
    let N = n.resources in
    let t = top a R N r0 below in_r0 N in
    let C : ℕ → Bool = λ s. joins a N t.0 s in
    let inside : (s : ℕ) → IsTrue (C s) → IsTrue (R s) = joins_within a R (λ i j e. (within-parts n R i j e).1) N t.0 in
    let closed : (i j : ℕ) → IsTrue (C i) → a i j ≡ true → IsTrue (C j) = λ i j in_C e. joins_trans a N t.0 i j (below i (inside i in_C)) in_C (joins_arc a N i j e) in
    let first = on t.0 t.1.member in (
      C,
      record {
        some = (first.0, joins_arc a N t.0 first.0 (within-from n R t.0 first.0 t.1.member first.1 first.2));
        named = λ r in_C. below r (inside r in_C);
        joined = λ i j in_i in_j.
            let back = t.1.back i (below i (inside i in_i)) (inside i in_i) in_i in
            let p = path a N i j (joins_trans a N i t.0 j (below t.0 t.1.member) back in_j) in
            (p.0, within-path n R C closed p.0 i j in_i p.1);
      },
      record {
        resources = inside;
        points = λ p l. (l.0, stays n net C R inside (λ r s in_C in_R e. closed r s in_C (within-from n R r s (inside r in_C) in_R e)) l.0 p l.1);
      },
    )

pub stuck_candidate : (n : Net) (m : List ℕ) (T R : ℕ → Bool) → IsNet n → IsStuck n m T → IsWanted n m T R → (C : ℕ → Bool) × IsCandidate n C × LiesIn n C R
stuck_candidate n m T R net stuck wants =
    let b = stuck.blocked stuck.some.0 stuck.some.1 in
    candidate n net R (named n m T R net wants) (next_arc n m T R net stuck wants) b.0 ((wants b.0).1 (stuck.some.0, stuck.some.1, b.1))
