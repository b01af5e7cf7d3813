-- Ways along arcs that are kept as rows.
use Rattle.std.proofs.Common.{◌≡◌, ◌≢◌, ℕ, zero, suc, ◌+◌, ◌-◌, ◌*◌, ◌<◌, ◌≤◌, ◌^◌, Bool, List, refl, sym, subst, inl, inr, ⊎_elim, ◌⊎◌, ◌↔◌, arith}
use Rattle.std.specs.Prelude.{IsTrue, IsFalse}
use Rattle.std.proofs.lemmas.Bool.{cases_lt, cases_eq, cases_Bool, both_ways}
use Rattle.place_sets.specs.Sets.{IsPartOf}
use Rattle.net_laws.specs.Candidates.{members}
use Rattle.gadara_net.specs.Graphs.{has_arc}
use Rattle.candidates.specs.Reached.{Leads, IsLed, IsCircular, AreReversed}
use Rattle.candidates.proofs.Numbers.{part_le, part_same}
use Rattle.candidates.proofs.Bitwise.{part_less}

-- one arc more at the end
pub one_further : (rows : List ℕ) (C : ℕ → Bool) (k a c b : ℕ) → Leads rows C a c k → IsTrue (C c) → IsTrue (has_arc rows c b) → Leads rows C a b (suc k)
one_further rows C zero a c b l in_C arc = (c, in_C, l, arc)
one_further rows C (suc k) a c b l in_C arc = (l.0, l.1, l.2, one_further rows C k l.0 c b l.3 in_C arc)

-- the way back
pub way_back : (rows back : List ℕ) (C : ℕ → Bool) → AreReversed rows back → ((c : ℕ) → IsTrue (C c) → c < 64) → (k a b : ℕ) → a < 64 → Leads back C a b k → Leads rows C b a k
way_back rows back C reversed few zero a b lt l = (reversed b a lt).0 l
way_back rows back C reversed few (suc k) a b lt l =
    one_further rows C k b l.0 a (way_back rows back C reversed few k l.0 b (few l.0 l.1) l.3) l.1 ((reversed l.0 a lt).0 l.2)

pub way_there : (rows back : List ℕ) (C : ℕ → Bool) → AreReversed rows back → ((c : ℕ) → IsTrue (C c) → c < 64) → (k a b : ℕ) → b < 64 → Leads rows C a b k → Leads back C b a k
way_there rows back C reversed few zero a b lt l = (reversed a b lt).1 l
way_there rows back C reversed few (suc k) a b lt l =
    one_further back C k b l.0 a (way_there rows back C reversed few k l.0 b lt l.3) l.1 ((reversed a l.0 (few l.0 l.1)).1 l.2)

-- through a larger set
pub widened : (rows : List ℕ) (C D : ℕ → Bool) → ((c x : ℕ) → IsTrue (C c) → IsTrue (has_arc rows x c) → IsTrue (D c)) → (k a b : ℕ) → Leads rows C a b k → Leads rows D a b k
widened rows C D wider zero a b l = l
widened rows C D wider (suc k) a b l = (l.0, wider l.0 a l.1 l.2, l.2, widened rows C D wider k l.0 b l.3)

joined : (rows : List ℕ) (C : ℕ → Bool) (k l a c b : ℕ) → Leads rows C a c k → IsTrue (C c) → Leads rows C c b l → IsLed rows C a b
joined rows C zero l a c b p in_C q = (suc l, (c, in_C, p, q))
joined rows C (suc k) l a c b p in_C q = let r = joined rows C k l p.0 c b p.3 in_C q in (suc r.0, (p.0, p.1, p.2, r.1))

-- ---- what was seen on the way

-- members of the set that are reached; those behind members that aren't left to be looked at are seen
pub record AreSeen (rows : List ℕ) (C : ℕ → Bool) (a : ℕ) (seen left : ℕ → Bool) : Type 0 where
  pub part : IsPartOf seen C
  pub left_part : IsPartOf left seen
  pub sound : (s : ℕ) → IsTrue (seen s) → IsLed rows C a s
  pub first : (s : ℕ) → IsTrue (has_arc rows a s) → IsTrue (C s) → IsTrue (seen s)
  pub closed : (r s : ℕ) → IsTrue (seen r) → IsFalse (left r) → IsTrue (has_arc rows r s) → IsTrue (C s) → IsTrue (seen s)

-- what an arc leads to is seen at first
pub AreSeen-first : (rows : List ℕ) (C seen : ℕ → Bool) (a : ℕ) → ((s : ℕ) → IsTrue (seen s) ↔ (IsTrue (has_arc rows a s) × IsTrue (C s))) → AreSeen rows C a seen seen
AreSeen-first rows C seen a are = record {
  part = λ s on. ((are s).0 on).1;
  left_part = λ s on. on;
  sound = λ s on. (0, ((are s).0 on).0);
  first = λ s arc in_C. (are s).1 (arc, in_C);
  closed = λ r s on off. absurd (both_ways _ off on);
}

-- what the next one leads to is seen too
pub AreSeen-next : (rows : List ℕ) (C seen left more later fresh : ℕ → Bool) (a next : ℕ) → AreSeen rows C a seen left → IsTrue (left next)
    → ((s : ℕ) → IsTrue (fresh s) ↔ ((IsTrue (has_arc rows next s) × IsTrue (C s)) × IsFalse (seen s)))
    → ((s : ℕ) → IsTrue (more s) ↔ (IsTrue (seen s) ⊎ IsTrue (fresh s)))
    → ((s : ℕ) → IsTrue (later s) ↔ ((IsTrue (left s) ⊎ IsTrue (fresh s)) × (s ≢ next)))
    → AreSeen rows C a more later
AreSeen-next rows C seen left more later fresh a next is in_left are_fresh are_more are_later = record {
  part = λ s on. ⊎_elim (λ old. is.part s old) (λ new. ((are_fresh s).0 new).0.1) ((are_more s).0 on);
  left_part = λ s on. (are_more s).1 (⊎_elim (λ old. inl (is.left_part s old)) (λ new. inr new) ((are_later s).0 on).0);
  sound = λ s on. ⊎_elim
      (λ old. is.sound s old)
      (λ new.
      let seen_next = is.left_part next in_left in
      let way = is.sound next seen_next in
      (suc way.0, one_further rows C way.0 a next s way.1 (is.part next seen_next) ((are_fresh s).0 new).0.0))
      ((are_more s).0 on);
  first = λ s arc in_C. (are_more s).1 (inl (is.first s arc in_C));
  closed = λ r s on off arc in_C.
      ⊎_elim
      (λ seen_s. (are_more s).1 (inl seen_s))
      (λ unseen. ⊎_elim
      (λ here. (are_more s).1 (inr ((are_fresh s).1 ((subst (λ x. IsTrue (has_arc rows x s)) here arc, in_C), unseen))))
      (λ differs. ⊎_elim
      (λ in_r. absurd (both_ways _ off ((are_later r).1 (inl in_r, differs))))
      (λ out_r. ⊎_elim
      (λ old. (are_more s).1 (inl (is.closed r s old out_r arc in_C)))
      (λ new. absurd (both_ways _ off ((are_later r).1 (inr new, differs))))
      ((are_more r).0 on))
      (cases_Bool (left r)))
      (cases_eq r next))
      (cases_Bool (seen s));
}

-- where none is left, all that is reached is seen
complete : (rows : List ℕ) (C seen : ℕ → Bool) → ((r s : ℕ) → IsTrue (seen r) → IsTrue (has_arc rows r s) → IsTrue (C s) → IsTrue (seen s))
    → (k a s : ℕ) → ((x : ℕ) → IsTrue (has_arc rows a x) → IsTrue (C x) → IsTrue (seen x)) → IsTrue (C s) → Leads rows C a s k → IsTrue (seen s)
complete rows C seen closed zero a s first in_C l = first s l in_C
complete rows C seen closed (suc k) a s first in_C l =
    let here = first l.0 l.2 l.1 in
    complete rows C seen closed k l.0 s (λ x. closed l.0 x here) in_C l.3

pub AreSeen-all : (rows : List ℕ) (C seen left : ℕ → Bool) (a : ℕ) → AreSeen rows C a seen left → ((s : ℕ) → IsFalse (left s)) → (s : ℕ) → IsTrue (seen s) ↔ (IsTrue (C s) × IsLed rows C a s)
AreSeen-all rows C seen left a is none s = (
  (λ on. (is.part s on, is.sound s on)),
  (λ r. complete rows C seen (λ x y on. is.closed x y on (none x)) r.1.0 a s is.first r.0 r.1.1),
)

-- what is still to be seen or left falls
pub seen_falls : (set seen more left later : ℕ) → later < 2 ^ 64 → seen ≤ more → more ≤ set → (seen ≡ more → later < left) → (set - more) * 2 ^ 64 + later < (set - seen) * 2 ^ 64 + left
seen_falls set seen more left later lt up within fewer =
    ⊎_elim
    (λ grown. omega (arith, grown))
    (λ le. let same : seen ≡ more = omega arith in omega (arith, fewer same))
    (cases_lt seen more)

pub next_falls : (rows : List ℕ) (set seen left more later fresh a next : ℕ) → AreSeen rows (members set) a (members seen) (members left) → IsTrue (members left next)
    → ((s : ℕ) → IsTrue (members fresh s) ↔ ((IsTrue (has_arc rows next s) × IsTrue (members set s)) × IsFalse (members seen s)))
    → ((s : ℕ) → IsTrue (members more s) ↔ (IsTrue (members seen s) ⊎ IsTrue (members fresh s)))
    → ((s : ℕ) → IsTrue (members later s) ↔ ((IsTrue (members left s) ⊎ IsTrue (members fresh s)) × (s ≢ next)))
    → later < 2 ^ 64 → (set - more) * 2 ^ 64 + later < (set - seen) * 2 ^ 64 + left
next_falls rows set seen left more later fresh a next is in_left are_fresh are_more are_later lt =
    let now = AreSeen-next rows (members set) (members seen) (members left) (members more) (members later) (members fresh) a next is in_left are_fresh are_more are_later in
    seen_falls set seen more left later lt
    (part_le seen more (λ s on. (are_more s).1 (inl on)))
    (part_le more set now.part)
    (λ same. part_less later left next
    (λ s on. ⊎_elim
    (λ old. old)
    (λ new. absurd (both_ways _ ((are_fresh s).0 new).1 (subst (λ x. IsTrue (members x s)) (sym same) ((are_more s).1 (inr new)))))
    ((are_later s).0 on).0)
    in_left
    (λ on. ((are_later next).0 on).1 refl))

-- what is common to a row and the set, and hasn't been seen
pub fresh_from : (row set seen both fresh : ℕ) → ((s : ℕ) → IsTrue (members both s) ↔ (IsTrue (members row s) × IsTrue (members set s)))
    → ((s : ℕ) → IsTrue (members fresh s) ↔ (IsTrue (members both s) × IsFalse (members seen s)))
    → (s : ℕ) → IsTrue (members fresh s) ↔ ((IsTrue (members row s) × IsTrue (members set s)) × IsFalse (members seen s))
fresh_from row set seen both fresh are_both are_fresh s = (
  (λ on. let f = (are_fresh s).0 on in ((are_both s).0 f.0, f.1)),
  (λ f. (are_fresh s).1 ((are_both s).1 f.0, f.1)),
)

-- what is left or fresh, without the next one
pub later_from : (left fresh next either later : ℕ) → ((s : ℕ) → IsTrue (members either s) ↔ (IsTrue (members left s) ⊎ IsTrue (members fresh s)))
    → ((s : ℕ) → IsTrue (members later s) ↔ (IsTrue (members either s) × (s ≢ next)))
    → (s : ℕ) → IsTrue (members later s) ↔ ((IsTrue (members left s) ⊎ IsTrue (members fresh s)) × (s ≢ next))
later_from left fresh next either later are_either are_later s = (
  (λ on. let l = (are_later s).0 on in ((are_either s).0 l.0, l.1)),
  (λ l. (are_later s).1 ((are_either s).1 l.0, l.1)),
)

-- ---- circles

-- a set all of which is reached from one member, and from all of which it is reached
pub circular_from : (rows back : List ℕ) (set first there again : ℕ) → set < 2 ^ 64 → ((c : ℕ) → IsTrue (members set c) → c < 64) → AreReversed rows back → IsTrue (members set first)
    → ((s : ℕ) → IsTrue (members there s) ↔ (IsTrue (members set s) × IsLed rows (members set) first s))
    → ((s : ℕ) → IsTrue (members again s) ↔ (IsTrue (members set s) × IsLed back (members set) first s))
    → there ≡ set → again ≡ set → IsCircular rows set
circular_from rows back set first there again lt few reversed in_set are_there are_again all_there all_back = record {
  some = (first, in_set);
  joined = λ a b in_a in_b.
      let to_b = ((are_there b).0 (subst (λ x. IsTrue (members x b)) (sym all_there) in_b)).1 in
      let to_a = ((are_again a).0 (subst (λ x. IsTrue (members x a)) (sym all_back) in_a)).1 in
      joined rows (members set) to_a.0 to_b.0 a first b (way_back rows back (members set) reversed few to_a.0 first a (few first in_set) to_a.1) in_set to_b.1;
}

pub circular_there : (rows : List ℕ) (set first there : ℕ) → IsTrue (members set first)
    → ((s : ℕ) → IsTrue (members there s) ↔ (IsTrue (members set s) × IsLed rows (members set) first s)) → IsCircular rows set → there ≡ set
circular_there rows set first there in_set are is =
    part_same there set (λ s on. ((are s).0 on).0) (λ s on. (are s).1 (on, is.joined first s in_set on))

pub circular_back : (rows back : List ℕ) (set first again : ℕ) → ((c : ℕ) → IsTrue (members set c) → c < 64) → AreReversed rows back → IsTrue (members set first)
    → ((s : ℕ) → IsTrue (members again s) ↔ (IsTrue (members set s) × IsLed back (members set) first s)) → IsCircular rows set → again ≡ set
circular_back rows back set first again few reversed in_set are is =
    part_same again set
    (λ s on. ((are s).0 on).0)
    (λ s on. let way = is.joined s first on in_set in
    (are s).1 (on, (way.0, way_there rows back (members set) reversed few way.0 s first (few first in_set) way.1)))
