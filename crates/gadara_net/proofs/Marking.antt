-- Marks, the row that lists them, and paths.
use Rattle.std.proofs.Common.{◌≡◌, ◌≢◌, ℕ, zero, suc, ◌+◌, ◌<◌, ◌≤◌, List, length, Bool, true, false, Some, refl, sym, ap, ◌∙◌, subst, ⊎_elim, arith}
use Rattle.std.specs.Prelude.{slice_set, IsTrue, IsFalse, ◌==◌}
use Rattle.std.proofs.lemmas.Bool.{cases_eq, cases_Bool, or_cases, or_left, or_right, or_from, both_ways, false≢true, eqb-true, eq-eqb, ne_eqb, false_from_ne_true}
use Rattle.std.proofs.lemmas.List.{length-set}
use Rattle.edges.specs.declared.EdgeOp.{EdgeOp}
use Rattle.edges.specs.declared.EdgeOp.TheVariants.{Plain, Acquire, Try, Reacquire, Release}
use Rattle.edges.specs.declared.Edge.{Edge}
use Rattle.edges.specs.Ops.{takes, gives}
use Rattle.net_laws.specs.Net.{Net, HasEdge, one}
use Rattle.net_laws.specs.Siphons.{InSiphon, Leads}
use Rattle.place_sets.specs.Sets.{IsEmpty, HasGained}
use Rattle.gadara_net.specs.Marks.{takes_one, gives_one, count_marked, AreMarked, HaveGrown, AreGiversMarked, AreSourcesMarked}
use Rattle.gadara_net.proofs.ListReads.{read_set, get_set_same, get_set_other}

gained : (marks more : ℕ → Bool) (p q : ℕ) → HasGained marks more p → marks q ≡ true → more q ≡ true
gained marks more p q g on = g q ∙ or_left _ _ on

gained_here : (marks more : ℕ → Bool) (p : ℕ) → HasGained marks more p → more p ≡ true
gained_here marks more p g = g p ∙ or_right _ _ (eq-eqb p p refl)

same_else : (marks more : ℕ → Bool) (p q : ℕ) → HasGained marks more p → q ≢ p → more q ≡ marks q
same_else marks more p q g differs = ⊎_elim
    (λ on. g q ∙ or_left _ _ on ∙ sym on)
    (λ off. g q ∙ or_from _ _ off (ne_eqb q p differs) ∙ sym off)
    (cases_Bool (marks q))

one_le : (b : Bool) → one b ≤ 1
one_le true = omega arith
one_le false = omega arith

count_le : (marks : ℕ → Bool) (n : ℕ) → count_marked marks n ≤ n
count_le marks zero = omega arith
count_le marks (suc n) = omega (arith, count_le marks n, one_le (marks n))

-- a point that isn't marked leaves room
pub count_less : (marks : ℕ → Bool) (n p : ℕ) → p < n → marks p ≡ false → count_marked marks n < n
count_less marks zero p lt off = absurd (omega arith)
count_less marks (suc n) p lt off = ⊎_elim
    (λ same. let none : one (marks n) ≡ 0 = ap one (subst (λ x. marks x ≡ false) same off) in omega (arith, count_le marks n, none))
    (λ differs. omega (arith, count_less marks n p (omega arith) off, one_le (marks n)))
    (cases_eq p n)

count_same : (marks more : ℕ → Bool) (n p : ℕ) → HasGained marks more p → n ≤ p → count_marked more n ≡ count_marked marks n
count_same marks more zero p g le = refl
count_same marks more (suc n) p g le =
    let rest = count_same marks more n p g (omega arith) in
    let here : one (more n) ≡ one (marks n) = ap one (same_else marks more p n g (λ e. absurd (omega (arith, e)))) in
    omega (arith, rest, here)

count_gain : (marks more : ℕ → Bool) (n p : ℕ) → HasGained marks more p → marks p ≡ false → p < n → count_marked more n ≡ count_marked marks n + 1
count_gain marks more zero p g off lt = absurd (omega arith)
count_gain marks more (suc n) p g off lt = ⊎_elim
    (λ same.
    let rest = count_same marks more n p g (omega arith) in
    let now : one (more n) ≡ 1 = ap one (subst (λ x. more x ≡ true) same (gained_here marks more p g)) in
    let was : one (marks n) ≡ 0 = ap one (subst (λ x. marks x ≡ false) same off) in
    omega (arith, rest, now, was))
    (λ differs.
    let rest = count_gain marks more n p g off (omega arith) in
    let here : one (more n) ≡ one (marks n) = ap one (same_else marks more p n g (λ e. differs (sym e))) in
    omega (arith, rest, here))
    (cases_eq p n)

pub count_none : (marks : ℕ → Bool) (n : ℕ) → IsEmpty marks → count_marked marks n ≡ 0
count_none marks zero none = refl
count_none marks (suc n) none = let here : one (marks n) ≡ 0 = ap one (none n) in omega (arith, count_none marks n none, here)

-- one point more
pub AreMarked-more : (n : Net) (R marks more : ℕ → Bool) (row : List ℕ) (end p : ℕ) → AreMarked n R marks row end → HasGained marks more p → marks p ≡ false → p < length row → end < length row → InSiphon n R p → AreMarked n R more (slice_set row end p) (end + 1)
AreMarked-more n R marks more row end p is g off lt room in_siphon = record {
  sound = λ q on. ⊎_elim
      (λ was. is.sound q was)
      (λ same. let e : q ≡ p = eqb-true q p same in (omega (arith, e, is.room), subst (InSiphon n R) (sym e) in_siphon))
      (or_cases _ _ (sym (g q) ∙ on));
  listed = λ q on. ⊎_elim
      (λ was. let l = is.listed q was in (l.0, omega (arith, l.1), get_set_other row end p l.0 (λ e. absurd (omega (arith, e, l.1))) ∙ l.2))
      (λ same. let e : q ≡ p = eqb-true q p same in (end, omega arith, get_set_same row end p room ∙ ap Some (sym e)))
      (or_cases _ _ (sym (g q) ∙ on));
  stands = λ k q below at. ⊎_elim
      (λ here. subst (λ x. more x ≡ true) (sym here.1) (gained_here marks more p g))
      (λ other. gained marks more p q g (is.stands k q (omega (arith, other.0, below)) other.1))
      (read_set row end p k q at);
  counted = omega (arith, is.counted, count_gain marks more n.points p g off (omega (arith, is.room, lt)));
  room = length-set row end p ∙ is.room;
}

-- nothing is marked in an empty set
pub AreMarked-none : (n : Net) (R marks : ℕ → Bool) (row : List ℕ) → IsEmpty marks → length row ≡ n.points → AreMarked n R marks row 0
AreMarked-none n R marks row none room = record {
  sound = λ p on. absurd (both_ways _ (none p) on);
  listed = λ p on. absurd (both_ways _ (none p) on);
  stands = λ k p below. absurd (omega (arith, below));
  counted = sym (count_none marks n.points none);
  room = room;
}

-- there is room for a point that isn't marked
pub AreMarked-room : (n : Net) (R marks : ℕ → Bool) (row : List ℕ) (end p : ℕ) → AreMarked n R marks row end → p < n.points → marks p ≡ false → end < length row
AreMarked-room n R marks row end p is lt off = omega (arith, is.counted, is.room, count_less marks n.points p lt off)

pub HaveGrown-trans : (a b c : ℕ → Bool) (xs ys zs : List ℕ) (i j k : ℕ) → HaveGrown a b xs ys i j → HaveGrown b c ys zs j k → HaveGrown a c xs zs i k
HaveGrown-trans a b c xs ys zs i j k f g = record {
  kept = λ p on. g.kept p (f.kept p on);
  stays = λ q below. g.stays q (omega (arith, f.further, below)) ∙ f.stays q below;
  further = omega (arith, f.further, g.further);
}

pub HaveGrown-refl : (a : ℕ → Bool) (xs : List ℕ) (i : ℕ) → HaveGrown a a xs xs i i
HaveGrown-refl a xs i = record { kept = λ p on. on; stays = λ k below. refl; further = omega arith }

gives_some : (R : ℕ → Bool) (o : EdgeOp) → gives_one R o ≡ true → (r : ℕ) × IsTrue (R r) × IsTrue (gives o r)
gives_some R (Release r) e = (r, e, eq-eqb r r refl)
gives_some R Plain e = absurd (false≢true e)
gives_some R (Acquire r) e = absurd (false≢true e)
gives_some R (Try r) e = absurd (false≢true e)
gives_some R (Reacquire r) e = absurd (false≢true e)

gives_from : (R : ℕ → Bool) (o : EdgeOp) (r : ℕ) → IsTrue (R r) → IsTrue (gives o r) → gives_one R o ≡ true
gives_from R (Release q) r on e = ap R (eqb-true q r e) ∙ on
gives_from R Plain r on e = absurd (false≢true e)
gives_from R (Acquire q) r on e = absurd (false≢true e)
gives_from R (Try q) r on e = absurd (false≢true e)
gives_from R (Reacquire q) r on e = absurd (false≢true e)

not_it : (R : ℕ → Bool) (q r : ℕ) → R q ≡ false → R r ≡ true → (q == r) ≡ false
not_it R q r off on = false_from_ne_true _ (λ t. both_ways _ (sym (ap R (eqb-true q r t)) ∙ off) on)

takes_none : (R : ℕ → Bool) (o : EdgeOp) → takes_one R o ≡ false → (r : ℕ) → IsTrue (R r) → IsFalse (takes o r)
takes_none R Plain e r on = refl
takes_none R (Release q) e r on = refl
takes_none R (Acquire q) e r on = not_it R q r e on
takes_none R (Try q) e r on = not_it R q r e on
takes_none R (Reacquire q) e r on = not_it R q r e on

takes_from : (R : ℕ → Bool) (o : EdgeOp) → ((r : ℕ) → IsTrue (R r) → IsFalse (takes o r)) → takes_one R o ≡ false
takes_from R Plain none = refl
takes_from R (Release q) none = refl
takes_from R (Acquire q) none = false_from_ne_true _ (λ on. both_ways _ (none q on) (eq-eqb q q refl))
takes_from R (Try q) none = false_from_ne_true _ (λ on. both_ways _ (none q on) (eq-eqb q q refl))
takes_from R (Reacquire q) none = false_from_ne_true _ (λ on. both_ways _ (none q on) (eq-eqb q q refl))

-- the point before a release of one of R is in
pub giver_in : (n : Net) (R : ℕ → Bool) (e : Edge) → HasEdge n e → gives_one R e.op ≡ true → InSiphon n R e.from
giver_in n R e has g = let s = gives_some R e.op g in (0, (e, has, refl, s))

-- the point before an edge that takes none of R and leads to one that is in is in
pub source_in : (n : Net) (R : ℕ → Bool) (e : Edge) → HasEdge n e → takes_one R e.op ≡ false → InSiphon n R e.to → InSiphon n R e.from
source_in n R e has t next = (suc next.0, (e, has, refl, takes_none R e.op t, next.1))

-- marks that no edge asks more of hold the siphon
pub marked_holds : (n : Net) (R marks : ℕ → Bool) → AreGiversMarked n R marks → AreSourcesMarked n R marks → (k p : ℕ) → Leads n R p k → IsTrue (marks p)
marked_holds n R marks givers sources zero p l =
    subst (λ x. IsTrue (marks x)) l.2 (givers l.0 l.1 (gives_from R l.0.op l.3.0 l.3.1 l.3.2))
marked_holds n R marks givers sources (suc k) p l =
    let next = marked_holds n R marks givers sources k l.0.to l.4 in
    subst (λ x. IsTrue (marks x)) l.2 (sources l.0 l.1 next (takes_from R l.0.op l.3))

-- the row has room for what it lists
pub AreMarked-end : (n : Net) (R marks : ℕ → Bool) (row : List ℕ) (end : ℕ) → AreMarked n R marks row end → end ≤ length row
AreMarked-end n R marks row end is = omega (arith, is.counted, is.room, count_le marks n.points)
