-- The least siphon of a set of resources.
use Rattle.std.proofs.Common.{◌≡◌, ℕ, zero, suc, ◌+◌, ◌<◌, Bool, true, false, ◌↔◌, ◌⊎◌, inl, inr, refl, sym, ap, subst, ⊎_elim, arith}
use Rattle.std.specs.Prelude.{IsTrue, IsFalse, ◌==◌}
use Rattle.std.proofs.lemmas.Bool.{cases_Bool, both_ways, eqb-true, eq-eqb, false≢true, false_from_ne_true}
use Rattle.edges.specs.declared.EdgeOp.{EdgeOp}
use Rattle.edges.specs.declared.EdgeOp.TheVariants.{Plain, Acquire, Try, Reacquire, Release}
use Rattle.edges.specs.declared.Edge.{Edge}
use Rattle.edges.specs.Ops.{takes, blocks, gives}
use Rattle.net_laws.specs.Net.{Net, one, HasEdge, IsNet, IsShaped}
use Rattle.net_laws.specs.Siphons.{IsSiphon, TakesNone, TakesOne, GivesOne, Leads, InSiphon, HasPlace, LiesIn, only}

-- what is given isn't taken
pub gives-takes : (o : EdgeOp) (r s : ℕ) → IsTrue (gives o r) → IsTrue (takes o s) → ⊥
gives-takes Plain r s g t = false≢true g
gives-takes (Acquire q) r s g t = false≢true g
gives-takes (Try q) r s g t = false≢true g
gives-takes (Reacquire q) r s g t = false≢true g
gives-takes (Release q) r s g t = false≢true t

pub blocks-takes : (o : EdgeOp) (r : ℕ) → IsTrue (blocks o r) → IsTrue (takes o r)
blocks-takes Plain r b = absurd (false≢true b)
blocks-takes (Acquire q) r b = b
blocks-takes (Try q) r b = absurd (false≢true b)
blocks-takes (Reacquire q) r b = b
blocks-takes (Release q) r b = absurd (false≢true b)

pub other : (q : ℕ) (R : ℕ → Bool) (r : ℕ) → R q ≡ false → R r ≡ true → (q == r) ≡ false
other q R r out in_R = ⊎_elim (λ same. absurd (both_ways (R r) (subst (λ x. R x ≡ false) (eqb-true q r same) out) in_R)) (λ e. e) (cases_Bool (q == r))

-- the resource that is taken is in R, or nothing of R is taken
taken : (R : ℕ → Bool) (q : ℕ) → ((r : ℕ) × IsTrue (R r) × IsTrue (q == r)) ⊎ ((r : ℕ) → IsTrue (R r) → IsFalse (q == r))
taken R q = ⊎_elim (λ in_R. inl (q, in_R, eq-eqb q q refl)) (λ out. inr (λ r in_R. other q R r out in_R)) (cases_Bool (R q))

pub takes_some : (o : EdgeOp) (R : ℕ → Bool) → ((r : ℕ) × IsTrue (R r) × IsTrue (takes o r)) ⊎ ((r : ℕ) → IsTrue (R r) → IsFalse (takes o r))
takes_some Plain R = inr (λ r in_R. refl)
takes_some (Acquire q) R = taken R q
takes_some (Try q) R = taken R q
takes_some (Reacquire q) R = taken R q
takes_some (Release q) R = inr (λ r in_R. refl)

pub siphon : (n : Net) (R : ℕ → Bool) → IsSiphon n (InSiphon n R) (λ r. IsTrue (R r))
siphon n R e has (inl l) =
    ⊎_elim (λ t. inr (t.0, t.2, t.1)) (λ none. inl (suc l.0, (e, has, refl, none, l.1))) (takes_some e.op R)
siphon n R e has (inr g) = inl (0, (e, has, refl, (g.0, g.2, g.1)))

pub least : (n : Net) (R P : ℕ → Bool) → IsSiphon n (λ p. IsTrue (P p)) (λ r. IsTrue (R r)) → (k p : ℕ) → Leads n R p k → IsTrue (P p)
least n R P is zero p l =
    let g = l.3 in
    ⊎_elim
    (λ here. subst (λ q. IsTrue (P q)) l.2 here)
    (λ t. absurd (gives-takes l.0.op g.0 t.0 g.2 t.1))
    (is l.0 l.1 (inr (g.0, g.2, g.1)))
least n R P is (suc k) p l =
    ⊎_elim
    (λ here. subst (λ q. IsTrue (P q)) l.2 here)
    (λ t. absurd (both_ways _ (l.3 t.0 t.2) t.1))
    (is l.0 l.1 (inl (least n R P is k l.0.to l.4)))

-- a path leads to the resource that it gives at its end
narrowed : (n : Net) (R : ℕ → Bool) (k p : ℕ) → Leads n R p k → (r : ℕ) × IsTrue (R r) × Leads n (only r) p k
narrowed n R zero p l = let g = l.3 in (g.0, g.1, (l.0, l.1, l.2, (g.0, eq-eqb g.0 g.0 refl, g.2)))
narrowed n R (suc k) p l =
    let next = narrowed n R k l.0.to l.4 in
    (next.0, next.1, (l.0, l.1, l.2, (λ s same. subst (λ x. IsFalse (takes l.0.op x)) (sym (eqb-true s next.0 same)) (l.3 next.0 next.1)), next.2))

pub union : (n : Net) (R : ℕ → Bool) (p : ℕ) → InSiphon n R p → (r : ℕ) × IsTrue (R r) × InSiphon n (only r) p
union n R p l = let r = narrowed n R l.0 p l.1 in (r.0, r.1, (l.0, r.2))

pub given : (n : Net) (R : ℕ → Bool) (e : Edge) → HasEdge n e → GivesOne R e → InSiphon n R e.from
given n R e has g = (0, (e, has, refl, g))

pub along : (n : Net) (R : ℕ → Bool) (e : Edge) → HasEdge n e → TakesNone R e → InSiphon n R e.to → InSiphon n R e.from
along n R e has none l = (suc l.0, (e, has, refl, none, l.1))

-- a point with one edge, which gives nothing of R: what is behind the edge is in, where the point is
pub onward : (n : Net) (R : ℕ → Bool) (e : Edge) → ((f : Edge) → HasEdge n f → f.from ≡ e.from → f ≡ e) → (GivesOne R e → ⊥) → InSiphon n R e.from → InSiphon n R e.to
onward n R e alone none l = by l.0 l.1
  where
    by : (k : ℕ) → Leads n R e.from k → InSiphon n R e.to
    by zero l = absurd (none (subst (λ f. GivesOne R f) (alone l.0 l.1 l.2) l.3))
    by (suc k) l = (k, subst (λ f. Leads n R f.to k) (alone l.0 l.1 l.2) l.4)

-- a point each of whose edges takes one of R isn't in the least siphon
pub takes_first : (n : Net) (R : ℕ → Bool) (p : ℕ) → ((e : Edge) → HasEdge n e → e.from ≡ p → TakesOne R e) → InSiphon n R p → ⊥
takes_first n R p all l = by l.0 l.1
  where
    by : (k : ℕ) → Leads n R p k → ⊥
    by zero l = let t = all l.0 l.1 l.2 in let g = l.3 in gives-takes l.0.op g.0 t.0 g.2 t.2
    by (suc k) l = let t = all l.0 l.1 l.2 in both_ways _ (l.3 t.0 t.1) t.2

-- at a point of the least siphon of R, one of R is held
pub holds : (n : Net) → IsNet n → (R : ℕ → Bool) (k p : ℕ) → Leads n R p k → (r : ℕ) × IsTrue (R r) × (0 < n.held p r)
holds n net R zero p l =
    let e = l.0 in let g = l.3 in let r = g.0 in
    let given : one (gives e.op r) ≡ 1 = ap one g.2 in
    let here : 0 < n.held e.from r = omega (arith, net.accounts e r l.1, given, ap one (false_from_ne_true (takes e.op r) (gives-takes e.op r r g.2))) in
    (r, g.1, subst (λ q. 0 < n.held q r) l.2 here)
holds n net R (suc k) p l =
    let e = l.0 in
    let next = holds n net R k e.to l.4 in
    let here : 0 < n.held e.from next.0 = omega (arith, net.accounts e next.0 l.1, next.2, ap one (l.3 next.0 next.1)) in
    (next.0, next.1, subst (λ q. 0 < n.held q next.0) l.2 here)

-- the points of a least siphon are points of the net
pub inside : (n : Net) → IsShaped n → (R : ℕ → Bool) (p : ℕ) → InSiphon n R p → p < n.points
inside n shaped R p l = by l.0 l.1
  where
    by : (k : ℕ) → Leads n R p k → p < n.points
    by zero l = subst (λ q. q < n.points) l.2 (shaped.leads l.0 l.1).0
    by (suc k) l = subst (λ q. q < n.points) l.2 (shaped.leads l.0 l.1).0

-- least siphons lie in one another as their sets of places do
pub as_places : (n : Net) → IsShaped n → (Q R : ℕ → Bool) → LiesIn n Q R ↔ ((place : ℕ) → HasPlace n Q place → HasPlace n R place)
as_places n shaped Q R = (
  (λ lies place has.
      ⊎_elim
      (λ p. inl (p.0, lies.points place p.1))
      (λ r. inr (r.0, lies.resources r.0 r.1, r.2))
      has),
  (λ all. record {
    resources = λ r in_Q. ⊎_elim
        (λ p. absurd (omega (arith, p.0)))
        (λ q. let same : q.0 ≡ r = omega (arith, q.2) in subst (λ x. IsTrue (R x)) same q.1)
        (all (n.points + r) (inr (r, in_Q, refl)));
    points = λ p l. let below = inside n shaped Q p l in ⊎_elim
        (λ q. q.1)
        (λ q. absurd (omega (arith, below, q.2)))
        (all p (inl (below, l)));
  }),
)
