-- Numbers that are raised along followed edges.
use Rattle.std.proofs.Common.{◌≡◌, ◌≢◌, ℕ, zero, suc, ◌-◌, ◌^◌, ◌<◌, ◌≤◌, List, [], ◌∷◌, ◌++◌, length, ◌⊎◌, inl, inr, refl, sym, ap, ◌∙◌, subst, ⊎_elim, arith, get_or-set_same, get_or-set_other, length-append}
use Rattle.std.specs.Prelude.{slice_get, slice_index, slice_set, Contains, IsTrue, Option, Some, None}
use Rattle.std.proofs.lemmas.Option.{none-some, same_Some}
use Rattle.std.proofs.lemmas.Bool.{cases_eq}
use Rattle.std.proofs.lemmas.List.Elements.{Contains-push, Contains-append_left}
use Rattle.std.proofs.lemmas.List.Sums.{sum_by-set}
use Rattle.edges.specs.declared.Edge.{Edge}
use Rattle.net_laws.specs.Net.{Net, HasEdge}
use Rattle.gadara_net.specs.Into.{IsLastTo}
use Rattle.weight_laws.specs.Weights.{follows, Follows, IsMovedFrom}
use Rattle.monitor_synth.specs.Raised.{AreReached, IsSettled, HaveRisen, work_left}

-- one more than a place, or 0 where there is none
abbrev pub after : Option ℕ → ℕ
after None = 0
after (Some k) = suc k

-- the place of the last edge to a point
pub last_here : (edges : List Edge) (point end : ℕ) (next : Option ℕ) → IsLastTo edges point end next → (j : ℕ) → next ≡ Some j → (j < end) × ((e : Edge) → slice_get edges j ≡ Some e → e.to ≡ point)
last_here edges point end None last j is = absurd (none-some j is)
last_here edges point end (Some i) last j is =
    let same : i ≡ j = same_Some i j is in
    (subst (λ x. x < end) same last.0, (λ e at. last.1 e (ap (slice_get edges) same ∙ at)))

-- from it on no edge leads to the point
pub last_none : (edges : List Edge) (point end : ℕ) (next : Option ℕ) → IsLastTo edges point end next → (j : ℕ) (e : Edge) → after next ≤ j → j < end → slice_get edges j ≡ Some e → e.to ≡ point → ⊥
last_none edges point end None last j e le lt at to = last j e le lt at to
last_none edges point end (Some i) last j e le lt at to = last.2 j e le lt at to

-- what is read after a write: the number written, or the old one of another place
index_set : (xs : List ℕ) (i v j : ℕ) → i < length xs → ((j ≡ i) × (slice_index (slice_set xs i v) j ≡ v)) ⊎ ((j ≢ i) × (slice_index (slice_set xs i v) j ≡ slice_index xs j))
index_set xs i v j lt =
    ⊎_elim
    (λ same. inl (same, subst (λ k. slice_index (slice_set xs i v) k ≡ v) (sym same) (get_or-set_same xs i v 0 lt)))
    (λ differs. inr (differs, get_or-set_other xs i j v 0 differs))
    (cases_eq j i)

-- the number that was written is read
pub index_same : (xs : List ℕ) (i v : ℕ) → i < length xs → slice_index (slice_set xs i v) i ≡ v
index_same xs i v lt = get_or-set_same xs i v 0 lt

-- one number is raised, and its point is put behind the others
pub risen_one : (xs todo : List ℕ) (i v : ℕ) → i < length xs → slice_index xs i ≤ v → HaveRisen (slice_index xs) (slice_index (slice_set xs i v)) todo (todo ++ i ∷ [])
risen_one xs todo i v lt le = record {
  grown = λ p.
      ⊎_elim
      (λ here. omega (arith, here.1, ap (slice_index xs) here.0, le))
      (λ other. omega (arith, other.1))
      (index_set xs i v p lt);
  risen = λ p.
      ⊎_elim
      (λ here. inr (subst (Contains (todo ++ i ∷ [])) (sym here.0) (Contains-push todo i)))
      (λ other. inl other.1)
      (index_set xs i v p lt);
  kept = λ p there. Contains-append_left todo (i ∷ []) p there;
}

-- a number that is raised to the one behind a followed edge comes from where that one comes from
pub reached_one : (n : Net) (w : ℕ → ℕ) (xs : List ℕ) (e : Edge) (v : ℕ) → HasEdge n e → IsTrue (follows n e) → e.from < length xs → slice_index xs e.from ≤ v → slice_index xs e.to ≡ v
    → AreReached n w (slice_index xs) → AreReached n w (slice_index (slice_set xs e.from v))
reached_one n w xs e v has go lt le behind reached = record {
  own = λ p. omega (arith, reached.own p, (risen_one xs [] e.from v lt le).grown p);
  met = λ p.
      ⊎_elim
      (λ here. let r = reached.met e.to in (suc r.0, r.1, (e, has, sym here.0, go, r.2), r.3 ∙ (behind ∙ sym here.1)))
      (λ other. let r = reached.met p in (r.0, r.1, r.2, r.3 ∙ sym other.1))
      (index_set xs e.from v p lt);
}

-- a number at the level or above isn't raised to it
pub stays_one : (xs : List ℕ) (i v p : ℕ) → i < length xs → slice_index xs i < v → v ≤ slice_index xs p → slice_index (slice_set xs i v) p ≡ slice_index xs p
stays_one xs i v p lt less le =
    ⊎_elim
    (λ here. absurd (omega (arith, ap (slice_index xs) here.0, less, le)))
    (λ other. other.1)
    (index_set xs i v p lt)

-- what is still to do grows by one point, and shrinks by what a number rises
pub less_one : (xs todo : List ℕ) (i v : ℕ) → i < length xs → slice_index xs i < v → v < 2 ^ 64 → work_left (slice_set xs i v) (todo ++ i ∷ []) ≤ work_left xs todo
less_one xs todo i v lt less fits =
    omega (arith, sum_by-set (λ number. 2 ^ 64 - number) xs i v 0 lt, length-append todo (i ∷ []))

pub HaveRisen-refl : (m : ℕ → ℕ) (todo : List ℕ) → HaveRisen m m todo todo
HaveRisen-refl m todo = record { grown = λ p. omega arith; risen = λ p. inl refl; kept = λ p there. there }

pub HaveRisen-trans : (l m k : ℕ → ℕ) (xs ys zs : List ℕ) → HaveRisen l m xs ys → HaveRisen m k ys zs → HaveRisen l k xs zs
HaveRisen-trans l m k xs ys zs one two = record {
  grown = λ p. omega (arith, one.grown p, two.grown p);
  risen = λ p.
      ⊎_elim
      (λ same. ⊎_elim (λ was. inl (same ∙ was)) (λ there. inr (two.kept p there)) (one.risen p))
      (λ there. inr there)
      (two.risen p);
  kept = λ p there. two.kept p (one.kept p there);
}

-- a settled point whose number hasn't risen is settled still
pub settled_still : (n : Net) (m more : ℕ → ℕ) (todo longer : List ℕ) → HaveRisen m more todo longer → (p : ℕ) → IsSettled n m p → IsSettled n more p ⊎ Contains longer p
settled_still n m more todo longer risen p settled =
    ⊎_elim
    (λ same. inl (λ e has to go. omega (arith, same, settled e has to go, risen.grown e.from)))
    (λ there. inr there)
    (risen.risen p)

-- where every point is settled, no number rises along followed edges
highest : (n : Net) (m : ℕ → ℕ) → ((p : ℕ) → IsSettled n m p) → (k p q : ℕ) → Follows n p q k → m q ≤ m p
highest n m settled zero p q path = omega (arith, ap m path)
highest n m settled (suc k) p q path =
    let e = path.0 in
    omega (arith, highest n m settled k e.to q path.4, settled e.to e path.1 refl path.3, ap m path.2)

pub moved_from : (n : Net) (w m : ℕ → ℕ) → AreReached n w m → ((p : ℕ) → IsSettled n m p) → IsMovedFrom n w m
moved_from n w m reached settled = record {
  bound = λ k p q path. omega (arith, reached.own q, highest n m settled k p q path);
  met = reached.met;
}

-- before any number is raised, each comes from its own point
pub reached_first : (n : Net) (w : ℕ → ℕ) → AreReached n w w
reached_first n w = record { own = λ p. omega arith; met = λ p. (0, p, refl, refl) }

-- a point of the number 0 is settled
pub settled_zero : (n : Net) (m : ℕ → ℕ) (p : ℕ) → m p ≡ 0 → IsSettled n m p
settled_zero n m p none e has to go = omega (arith, none)
