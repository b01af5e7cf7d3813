-- Where the moved weight changes.
use Rattle.std.proofs.Common.{◌≡◌, ℕ, zero, suc, ◌<◌, ◌≤◌, Bool, true, false, not, ◌&&◌, ◌==◌, ◌⊎◌, inl, inr, refl, sym, ap, ◌∙◌, subst, ⊎_elim, arith}
use Rattle.std.specs.Prelude.{IsTrue, IsFalse}
use Rattle.std.proofs.lemmas.Bool.{cases_Bool, cases_lt, and_from, both_ways, eqb-true, eq-eqb, false≢true, false_from_ne_true}
use Rattle.edges.specs.declared.EdgeOp.{EdgeOp}
use Rattle.edges.specs.declared.EdgeOp.TheVariants.{Plain, Acquire, Try, Reacquire, Release}
use Rattle.edges.specs.declared.Edge.{Edge}
use Rattle.edges.specs.Ops.{takes, blocks, gives}
use Rattle.net_laws.specs.Net.{Net, IsNet, HasEdge, one}
use Rattle.net_laws.specs.Siphons.{Leads, TakesNone, TakesOne}
use Rattle.net_laws.proofs.Sums.{any_at}
use Rattle.net_laws.proofs.Least.{takes_first, takes_some}
use Rattle.weight_laws.specs.Flow.{branches, is_try, tries, Wakes, IsFlow}
use Rattle.weight_laws.specs.Weights.{IsMarked, weight, is_quiet, follows, Follows, IsMoved, IsEntry, MayRise, MayFall}
use Rattle.weight_laws.proofs.Alone.{alone}
use Rattle.weight_laws.proofs.Along.{GivesNone, gives_some, up, down, level, backward}

small : (b : Bool) → one b ≤ 1
small true = omega arith
small false = omega arith

not_false : (b : Bool) → b ≡ false → not b ≡ true
not_false true off = absurd (false≢true (sym off))
not_false false off = refl

module _ (n : Net) (R S : ℕ → Bool) (m : ℕ → ℕ) (moved : IsMoved n R S m) where
  -- along an edge that is followed, the moved weight doesn't rise
  pub edge_le : (e : Edge) → HasEdge n e → IsTrue (follows n e) → m e.to ≤ m e.from
  edge_le e has go = let r = moved.met e.to in omega (arith, r.3, moved.bound (suc r.0) e.from r.1 (e, has, refl, go, r.2))

  -- the moved weight is the point's own, or comes from one of its edges
  comes_from : (p : ℕ) → ((k q : ℕ) × Follows n p q k × (weight n R S q ≡ m p)) → (m p ≡ weight n R S p) ⊎ ((e : Edge) × HasEdge n e × (e.from ≡ p) × (m p ≤ m e.to))
  comes_from p (zero, q, path, is) = inl (sym is ∙ ap (weight n R S) (sym path))
  comes_from p (suc k, q, path, is) = inr (path.0, path.1, path.2, omega (arith, is, moved.bound k path.0.to q path.4))

  -- along the only edge of a point, where the weight doesn't fall, the moved weight doesn't fall
  pub only : (e : Edge) → ((d : Edge) → HasEdge n d → e.from ≡ d.from → e ≡ d) → weight n R S e.from ≤ weight n R S e.to → m e.from ≤ m e.to
  only e single le =
      ⊎_elim
      (λ own. omega (arith, own, le, moved.bound 0 e.to e.to refl))
      (λ d. let same : e ≡ d.0 = single d.0 d.1 (sym d.2) in subst (λ x. m e.from ≤ m x.to) (sym same) d.3)
      (comes_from e.from (moved.met e.from))

  pub rise : (e : Edge) → HasEdge n e → m e.from < m e.to → MayRise n e
  rise e has more = ⊎_elim (λ try. inr try) (λ none. by none e.op refl) (cases_Bool (tries n e.from))
    where
      low : IsFalse (tries n e.from) → IsTrue (is_quiet e.op) → ⊥
      low none quiet = omega (arith, more, edge_le e has (and_from _ _ quiet (not_false _ none)))

      by : IsFalse (tries n e.from) → (o : EdgeOp) → e.op ≡ o → MayRise n e
      by none Plain is = absurd (low none (subst (λ o. is_quiet o ≡ true) (sym is) refl))
      by none (Acquire r) is = inl (r, subst (λ o. blocks o r ≡ true) (sym is) (eq-eqb r r refl))
      by none (Try r) is =
          let here : is_try e.op ≡ true = subst (λ o. is_try o ≡ true) (sym is) refl in
          inr (any_at (λ x. x.from == e.from && is_try x.op) n.edges has.0 e has.1 (and_from _ _ (eq-eqb e.from e.from refl) here))
      by none (Reacquire r) is = inl (r, subst (λ o. blocks o r ≡ true) (sym is) (eq-eqb r r refl))
      by none (Release r) is = absurd (low none (subst (λ o. is_quiet o ≡ true) (sym is) refl))

module _ (n : Net) (net : IsNet n) (R S : ℕ → Bool) (marked : IsMarked n R S) where
  -- where the only edge takes one of the set, the point is outside the siphon
  outside : (e : Edge) → ((d : Edge) → HasEdge n d → e.from ≡ d.from → e ≡ d) → TakesOne R e → S e.from ≡ false
  outside e single t =
      false_from_ne_true (S e.from) (λ in_p.
      takes_first n R e.from (λ d has from. subst (λ x. TakesOne R x) (single d has (sym from)) t) ((marked.exact e.from).0 in_p))

  -- along the only edge of a point, which gives nothing of the set, the weight doesn't fall
  pub weight_up : (e : Edge) → HasEdge n e → ((d : Edge) → HasEdge n d → e.from ≡ d.from → e ≡ d) → GivesNone R e → weight n R S e.from ≤ weight n R S e.to
  weight_up e has single none =
      ⊎_elim
      (λ t. omega (arith, up n net R marked.named e has t, ap one (outside e single t), small (S e.to)))
      (λ free. omega (arith, level n net R e has free none, backward n R S marked e has free))
      (takes_some e.op R)

  -- until a sleeping thread has taken its mutex again, nothing is given
  asleep_out : (r : ℕ) → IsTrue (R r) → (k p : ℕ) → Wakes n r p k → (l : ℕ) → Leads n R p l → ⊥
  asleep_out r in_R zero p w l leads =
      takes_first n R p (λ d has from.
      let same : w.0 ≡ d = alone n w.0 d w.1 has (w.2 ∙ sym from) (subst (λ x. branches n x ≡ false) (sym w.2) w.3) in
      (r, in_R, subst (λ x. takes x.op r ≡ true) same w.4)) (l, leads)
  asleep_out r in_R (suc k) p w zero leads =
      let same : w.0 ≡ leads.0 = alone n w.0 leads.0 w.1 leads.1 (w.2 ∙ sym leads.2) (subst (λ x. branches n x ≡ false) (sym w.2) w.3) in
      let g = leads.3 in
      both_ways (gives leads.0.op g.0) (subst (λ x. gives x.op g.0 ≡ false) same (w.4 g.0)) g.2
  asleep_out r in_R (suc k) p w (suc l) leads =
      let same : w.0 ≡ leads.0 = alone n w.0 leads.0 w.1 leads.1 (w.2 ∙ sym leads.2) (subst (λ x. branches n x ≡ false) (sym w.2) w.3) in
      asleep_out r in_R k w.0.to w.5 l (subst (λ x. Leads n R x.to l) (sym same) leads.4)

  -- along the release of a wait, the weight doesn't fall
  pub sleep_level : (e : Edge) (r k : ℕ) → HasEdge n e → e.op ≡ Release r → Wakes n r e.to k → weight n R S e.from ≤ weight n R S e.to
  sleep_level e r k has is wakes =
      let free : TakesNone R e = λ s in_s. subst (λ o. takes o s ≡ false) (sym is) refl in
      ⊎_elim
      (λ g.
      let gift : IsTrue (gives (Release r) g.0) = subst (λ o. gives o g.0 ≡ true) is g.2 in
      let same : r ≡ g.0 = eqb-true r g.0 gift in
      let in_r : IsTrue (R r) = subst (λ x. R x ≡ true) (sym same) g.1 in
      let in_p : S e.from ≡ true = (marked.exact e.from).1 (0, (e, has, refl, g)) in
      let out : S e.to ≡ false = false_from_ne_true (S e.to) (λ in_q. let l = (marked.exact e.to).0 in_q in asleep_out r in_r k e.to wakes l.0 l.1) in
      omega (arith, down n net R marked.named e has g, ap one in_p, ap one out))
      (λ none. omega (arith, level n net R e has free none, backward n R S marked e has free))
      (gives_some e.op R)

-- along the only edge of a point, unless it is a release that is no wait's, the weight doesn't fall
keeps_weight : (n : Net) (R S : ℕ → Bool) → IsFlow n → IsMarked n R S → (e : Edge) → HasEdge n e → IsFalse (branches n e.from) → (MayFall n e → ⊥) → weight n R S e.from ≤ weight n R S e.to
keeps_weight n R S flow marked e has single no_fall = by e.op refl
  where
    flat : ((s : ℕ) → gives e.op s ≡ false) → weight n R S e.from ≤ weight n R S e.to
    flat none = weight_up n flow.net R S marked e has (λ d has_d from. alone n e d has has_d from single) (λ s in_s. none s)

    by : (o : EdgeOp) → e.op ≡ o → weight n R S e.from ≤ weight n R S e.to
    by Plain is = flat (λ s. subst (λ o. gives o s ≡ false) (sym is) refl)
    by (Acquire r) is = flat (λ s. subst (λ o. gives o s ≡ false) (sym is) refl)
    by (Try r) is = flat (λ s. subst (λ o. gives o s ≡ false) (sym is) refl)
    by (Reacquire r) is = flat (λ s. subst (λ o. gives o s ≡ false) (sym is) refl)
    by (Release r) is =
        ⊎_elim
        (λ asleep. let a = flow.asleep e has asleep in sleep_level n flow.net R S marked e a.0 a.1 has a.2 a.3)
        (λ awake. absurd (no_fall (inl (r, is, awake))))
        (cases_Bool (n.waiting e.to))

pub fall : (n : Net) (R S : ℕ → Bool) (m : ℕ → ℕ) → IsFlow n → IsMarked n R S → IsMoved n R S m → (e : Edge) → HasEdge n e → m e.to < m e.from → MayFall n e
fall n R S m flow marked moved e has less =
    ⊎_elim (λ branch. inr branch) (λ single. by single e.op refl) (cases_Bool (branches n e.from))
  where
    stays : IsFalse (branches n e.from) → (MayFall n e → ⊥) → ⊥
    stays single no_fall = omega (arith, less, only n R S m moved e (λ d has_d from. alone n e d has has_d from single) (keeps_weight n R S flow marked e has single no_fall))

    -- an edge that isn't a release falls nowhere
    other : IsFalse (branches n e.from) → ((r : ℕ) → e.op ≡ Release r → ⊥) → ⊥
    other single none = stays single (λ may. ⊎_elim (λ release. none release.0 release.1) (λ branch. both_ways _ single branch) may)

    by : IsFalse (branches n e.from) → (o : EdgeOp) → e.op ≡ o → MayFall n e
    by single Plain is = absurd (other single (λ r to. let clash : Plain ≡ Release r = sym is ∙ to in cc clash))
    by single (Acquire q) is = absurd (other single (λ r to. let clash : Acquire q ≡ Release r = sym is ∙ to in cc clash))
    by single (Try q) is = absurd (other single (λ r to. let clash : Try q ≡ Release r = sym is ∙ to in cc clash))
    by single (Reacquire q) is = absurd (other single (λ r to. let clash : Reacquire q ≡ Release r = sym is ∙ to in cc clash))
    by single (Release r) is =
        ⊎_elim
        (λ asleep. absurd (stays single (λ may. ⊎_elim (λ release. both_ways _ release.2 asleep) (λ branch. both_ways _ single branch) may)))
        (λ awake. inl (r, is, awake))
        (cases_Bool (n.waiting e.to))

pub stay : (n : Net) (R S : ℕ → Bool) (m : ℕ → ℕ) → IsFlow n → IsMarked n R S → IsMoved n R S m → (e : Edge) → HasEdge n e → (MayRise n e → ⊥) → (MayFall n e → ⊥) → m e.from ≡ m e.to
stay n R S m flow marked moved e has no_rise no_fall =
    ⊎_elim
    (λ more. absurd (no_rise (rise n R S m moved e has more)))
    (λ le. ⊎_elim
    (λ less. absurd (no_fall (fall n R S m flow marked moved e has less)))
    (λ ge. omega (arith, le, ge))
    (cases_lt (m e.to) (m e.from)))
    (cases_lt (m e.from) (m e.to))

-- moved weights are determined
at_most : (n : Net) (R S : ℕ → Bool) (m l : ℕ → ℕ) → IsMoved n R S m → IsMoved n R S l → (p : ℕ) → m p ≤ l p
at_most n R S m l moved other p = let r = moved.met p in omega (arith, r.3, other.bound r.0 p r.1 r.2)

pub same : (n : Net) (R S : ℕ → Bool) (m l : ℕ → ℕ) → IsMoved n R S m → IsMoved n R S l → (p : ℕ) → m p ≡ l p
same n R S m l moved other p = omega (arith, at_most n R S m l moved other p, at_most n R S l m other moved p)

blocks_gives : (o : EdgeOp) (r s : ℕ) → IsTrue (blocks o r) → gives o s ≡ false
blocks_gives Plain r s b = absurd (false≢true b)
blocks_gives (Acquire q) r s b = refl
blocks_gives (Try q) r s b = absurd (false≢true b)
blocks_gives (Reacquire q) r s b = refl
blocks_gives (Release q) r s b = absurd (false≢true b)

-- behind the only edge of a point, where the weight doesn't fall, the moved weight is the entry weight
behind : (n : Net) (R S : ℕ → Bool) (m entry : ℕ → ℕ) → IsMoved n R S m → IsEntry n m entry → (e : Edge) → HasEdge n e → ((d : Edge) → HasEdge n d → e.from ≡ d.from → e ≡ d) → weight n R S e.from ≤ weight n R S e.to → entry e.from ≡ m e.to
behind n R S m entry moved ent e has single le =
    ⊎_elim
    (λ own. omega (arith, own, only n R S m moved e single le, ent.next e has))
    (λ d. let same : e ≡ d.0 = single d.0 d.1 (sym d.2) in subst (λ x. entry e.from ≡ m x.to) (sym same) d.3)
    (ent.met e.from)

pub entry_blocking : (n : Net) (R S : ℕ → Bool) (m entry : ℕ → ℕ) → IsNet n → IsMarked n R S → IsMoved n R S m → IsEntry n m entry → (e : Edge) (r : ℕ) → HasEdge n e → IsTrue (blocks e.op r) → entry e.from ≡ m e.to
entry_blocking n R S m entry net marked moved ent e r has b =
    let single : (d : Edge) → HasEdge n d → e.from ≡ d.from → e ≡ d = λ d has_d from. net.sole e d r has has_d from b in
    behind n R S m entry moved ent e has single (weight_up n net R S marked e has single (λ s in_s. blocks_gives e.op r s b))

pub entry_straight : (n : Net) (R S : ℕ → Bool) (m entry : ℕ → ℕ) → IsFlow n → IsMarked n R S → IsMoved n R S m → IsEntry n m entry → (e : Edge) → HasEdge n e → IsFalse (branches n e.from) → (MayFall n e → ⊥) → entry e.from ≡ m e.to
entry_straight n R S m entry flow marked moved ent e has single no_fall =
    behind n R S m entry moved ent e has (λ d has_d from. alone n e d has has_d from single) (keeps_weight n R S flow marked e has single no_fall)

quiet_from : (n : Net) (e : Edge) → HasEdge n e → IsFalse (tries n e.from) → ((r : ℕ) → IsFalse (blocks e.op r)) → (o : EdgeOp) → e.op ≡ o → is_quiet e.op ≡ true
quiet_from n e has none free Plain is = subst (λ o. is_quiet o ≡ true) (sym is) refl
quiet_from n e has none free (Acquire r) is = absurd (both_ways (blocks e.op r) (free r) (subst (λ o. blocks o r ≡ true) (sym is) (eq-eqb r r refl)))
quiet_from n e has none free (Try r) is =
    let here : is_try e.op ≡ true = subst (λ o. is_try o ≡ true) (sym is) refl in
    absurd (both_ways (tries n e.from) none (any_at (λ x. x.from == e.from && is_try x.op) n.edges has.0 e has.1 (and_from _ _ (eq-eqb e.from e.from refl) here)))
quiet_from n e has none free (Reacquire r) is = absurd (both_ways (blocks e.op r) (free r) (subst (λ o. blocks o r ≡ true) (sym is) (eq-eqb r r refl)))
quiet_from n e has none free (Release r) is = subst (λ o. is_quiet o ≡ true) (sym is) refl

-- the entry weight of a point where nobody is blocked and no lock is tried is its moved weight
pub entry_own : (n : Net) (R S : ℕ → Bool) (m entry : ℕ → ℕ) → IsMoved n R S m → IsEntry n m entry → (p : ℕ) → IsFalse (tries n p) → ((e : Edge) (r : ℕ) → HasEdge n e → e.from ≡ p → IsFalse (blocks e.op r)) → entry p ≡ m p
entry_own n R S m entry moved ent p none free =
    ⊎_elim
    (λ own. own)
    (λ d.
    let e = d.0 in
    let no_try : IsFalse (tries n e.from) = subst (λ x. tries n x ≡ false) (sym d.2) none in
    let quiet = quiet_from n e d.1 no_try (λ r. free e r d.1 d.2) e.op refl in
    omega (arith, d.3, edge_le n R S m moved e d.1 (and_from _ _ quiet (not_false _ no_try)), ap m d.2, ent.own p))
    (ent.met p)
