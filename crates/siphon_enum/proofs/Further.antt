-- Lists of minimal sets, one candidate further.
use Rattle.std.proofs.Common.{◌≡◌, ℕ, zero, suc, ◌<◌, ◌≤◌, Bool, List, [], ◌∷◌, ◌++◌, length, get_or, refl, sym, ap, ◌∙◌, subst, ⊎_elim, arith}
use Rattle.std.specs.Prelude.{AllPairs, Contains}
use Rattle.std.proofs.lemmas.Bool.{cases_order}
use Rattle.std.proofs.lemmas.List.{get_or_default, length-append}
use Rattle.std.proofs.lemmas.List.Elements.{Contains-get_or, Contains-push, Contains-push_cases, Contains-append_left}
use Rattle.std.proofs.lemmas.List.Quantifiers.{all_pairs_push}
use Rattle.net_laws.specs.Net.{Net}
use Rattle.net_laws.specs.Candidates.{IsMinimal}
use Rattle.candidates.specs.Order.{IsBefore}
use Rattle.candidates.specs.Next.{IsLast, IsNext}
use Rattle.candidates.proofs.Order.{before_cases, before_trans, before_not}
use Rattle.candidates.proofs.Lying.{zero_before}
use Rattle.siphon_enum.specs.Listed.{AreAllMinimal, AreFirstMinimal, HasMoreMinimal}
use Rattle.siphon_enum.specs.Rows.{HaveSize, AreSiphonsOf, place_count}
use Rattle.siphon_enum.specs.Kept.{AreKept, AreMinimalBefore, AreMinimalUpTo, IsOneTooMany}
use Rattle.siphon_enum.proofs.Rows.{siphons_fewer}

-- of two sets at most one stands before the other
apart : (Q R : ℕ) → IsBefore Q R → IsBefore R Q → ⊥
apart Q R one other = before_not Q (before_trans Q R Q one other)

-- nothing is contained in an empty list
none_in : (sets : List ℕ) (C : ℕ) → sets ≡ [] → Contains sets C → ⊥
none_in sets C none has = omega (arith, has.1, ap length none)

-- a set behind all others keeps the order
pub ordered_push : (sets : List ℕ) (R : ℕ) → AllPairs IsBefore sets → ((C : ℕ) → Contains sets C → IsBefore C R) → AllPairs IsBefore (sets ++ R ∷ [])
ordered_push sets R ordered before = all_pairs_push IsBefore sets R ordered (λ k d lt. before (get_or sets k d) (Contains-get_or sets k d lt))

-- no minimal set stands before all candidates
pub up_to_none : (n : Net) (sets : List ℕ) → sets ≡ [] → AreMinimalUpTo n 0 sets
up_to_none n sets none C =
    ((λ has. absurd (none_in sets C none has)), (λ is. absurd (is.1 (zero_before n C is.0.candidate))))

-- up to a candidate: before the next one
pub before_next : (n : Net) (at next : ℕ) (sets : List ℕ) → IsNext n at next → AreMinimalUpTo n at sets → AreMinimalBefore n next sets
before_next n at next sets is up_to C = (
  (λ has.
      let m = (up_to C).0 has in
      (m.0, ⊎_elim (λ behind. absurd (m.1 behind)) (⊎_elim (λ same. subst (λ x. IsBefore x next) same is.is.behind) (λ first. before_trans C at next first is.is.behind)) (before_cases at C))),
  (λ m. (up_to C).1 (
    m.0,
    λ behind. ⊎_elim
        (λ same. before_not next (subst (λ x. IsBefore x next) same m.1))
        (λ later. apart C next m.1 later)
        (is.first C (record { below = m.0.below; candidate = m.0.candidate; behind = behind })),
  )),
)

-- all, where there is no further candidate
pub all_up_to : (n : Net) (at : ℕ) (sets : List ℕ) → IsLast n at → AllPairs IsBefore sets → AreMinimalUpTo n at sets → AreAllMinimal n sets
all_up_to n at sets last ordered up_to = record {
  ordered = ordered;
  exact = λ C. ((λ has. ((up_to C).0 has).0), (λ is. (up_to C).1 (is, λ behind. last C (record { below = is.below; candidate = is.candidate; behind = behind }))));
}

-- a minimal candidate is kept
pub up_to_kept : (n : Net) (R : ℕ) (sets : List ℕ) → IsMinimal n R → AreMinimalBefore n R sets → AreMinimalUpTo n R (sets ++ R ∷ [])
up_to_kept n R sets is before C = (
  (λ has. ⊎_elim
      (λ old. let m = (before C).0 old in (m.0, λ behind. apart C R m.1 behind))
      (λ same. (subst (IsMinimal n) same is, λ behind. before_not R (subst (IsBefore R) (sym same) behind)))
      (Contains-push_cases sets R C has)),
  (λ m. ⊎_elim
      (λ behind. absurd (m.1 behind))
      (⊎_elim
      (λ same. subst (Contains (sets ++ R ∷ [])) same (Contains-push sets R))
      (λ first. Contains-append_left sets (R ∷ []) C ((before C).1 (m.0, first))))
      (before_cases R C)),
)

-- another one isn't
pub up_to_dropped : (n : Net) (R : ℕ) (sets : List ℕ) → (IsMinimal n R → ⊥) → AreMinimalBefore n R sets → AreMinimalUpTo n R sets
up_to_dropped n R sets isnt before C = (
  (λ has. let m = (before C).0 has in (m.0, λ behind. apart C R m.1 behind)),
  (λ m. ⊎_elim
      (λ behind. absurd (m.1 behind))
      (⊎_elim
      (λ same. absurd (isnt (subst (IsMinimal n) (sym same) m.0)))
      (λ first. (before C).1 (m.0, first)))
      (before_cases R C)),
)

-- the first ones, where one more would be too many
pub first_before : (n : Net) (limit R : ℕ) (sets : List ℕ) → AllPairs IsBefore sets → IsOneTooMany n limit R sets → AreFirstMinimal n limit sets
first_before n limit R sets ordered is = record {
  as_many = is.count;
  ordered = ordered;
  minimal = λ C has. ((is.before C).0 has).0;
  first = λ Q C has other before. (is.before Q).1 (other, before_trans Q C R before ((is.before C).0 has).1);
}

pub more_than : (n : Net) (limit R : ℕ) (sets : List ℕ) → AllPairs IsBefore sets → IsOneTooMany n limit R sets → HasMoreMinimal n limit
more_than n limit R sets ordered is = (
  sets ++ R ∷ [],
  record {
    ordered = ordered_push sets R ordered (λ C has. ((is.before C).0 has).1);
    minimal = λ C has. ⊎_elim (λ old. ((is.before C).0 old).0) (λ same. subst (IsMinimal n) same is.minimal) (Contains-push_cases sets R C has);
  },
  omega (arith, length-append sets (R ∷ []), is.count),
)

-- an ordered list whose elements stand in another one is no longer than that: each stands there no earlier
place_from : (xs ys : List ℕ) → AllPairs IsBefore xs → AllPairs IsBefore ys → ((C : ℕ) → Contains xs C → Contains ys C) → (i : ℕ) → i < length xs → (j : ℕ) × (i ≤ j) × (j < length ys) × (get_or ys j 0 ≡ get_or xs i 0)
place_from xs ys ordered others all zero lt =
    let at = all (get_or xs 0 0) (Contains-get_or xs 0 0 lt) in
    (at.0, omega arith, at.1, get_or_default ys at.0 0 (get_or xs 0 0) at.1 ∙ at.2)
place_from xs ys ordered others all (suc i) lt =
    let was = place_from xs ys ordered others all i (omega (arith, lt)) in
    let at = all (get_or xs (suc i) 0) (Contains-get_or xs (suc i) 0 lt) in
    let here : get_or ys at.0 0 ≡ get_or xs (suc i) 0 = get_or_default ys at.0 0 (get_or xs (suc i) 0) at.1 ∙ at.2 in
    let less : IsBefore (get_or xs i 0) (get_or xs (suc i) 0) = ordered i (suc i) 0 (omega arith) lt in
    let further : was.0 < at.0 = ⊎_elim
    (λ same. absurd (before_not (get_or xs i 0) (subst (IsBefore (get_or xs i 0)) (sym here ∙ (ap (λ k. get_or ys k 0) (sym same) ∙ was.3)) less)))
    (⊎_elim
    (λ after. after)
    (λ earlier. absurd (apart (get_or xs i 0) (get_or xs (suc i) 0) less (subst (λ x. IsBefore x (get_or xs i 0)) here (subst (IsBefore (get_or ys at.0 0)) was.3 (others at.0 was.0 0 earlier was.2))))))
    (cases_order was.0 at.0) in
    (at.0, omega (arith, was.1, further), at.1, here)

pub no_longer : (xs ys : List ℕ) → AllPairs IsBefore xs → AllPairs IsBefore ys → ((C : ℕ) → Contains xs C → Contains ys C) → length xs ≤ length ys
no_longer xs ys ordered others all = by (length xs) refl
  where
    by : (k : ℕ) → length xs ≡ k → length xs ≤ length ys
    by zero e = omega (arith, e)
    by (suc k) e = let at = place_from xs ys ordered others all k (omega (arith, e)) in omega (arith, e, at.1, at.2)

-- where all minimal sets are as few as a number, there aren't more
pub not_more : (n : Net) (limit : ℕ) (sets : List ℕ) → AreAllMinimal n sets → length sets ≤ limit → HasMoreMinimal n limit → ⊥
not_more n limit sets all few more =
    omega (arith, few, more.2, no_longer more.0 sets more.1.ordered all.ordered (λ C has. (all.exact C).1 (more.1.minimal C has)))

module _ {Row : Type 0} (bound : Row → ℕ) (places : Row → ℕ → Bool) (n : Net) (limit : ℕ) (sets : List ℕ) (rows more : List Row) (R : ℕ) (seen : List ℕ) where
  -- the kept sets, once the least siphon of another one stands behind theirs
  pub kept_dropped : seen ≡ sets → AreKept bound places n limit sets rows → HaveSize bound (place_count n) more → length more ≡ length rows → AreSiphonsOf places n (seen ++ R ∷ []) more → AreKept bound places n limit sets more
  kept_dropped same kept sizes as_many hold = record {
    few = kept.few;
    ordered = kept.ordered;
    rows = as_many ∙ kept.rows;
    sizes = sizes;
    hold = siphons_fewer places n sets more R (subst (λ xs. AreSiphonsOf places n (xs ++ R ∷ []) more) same hold);
  }

  -- and that one too
  pub kept_more : seen ≡ sets → AreKept bound places n limit sets rows → HaveSize bound (place_count n) more → length more ≡ length rows → AreSiphonsOf places n (seen ++ R ∷ []) more → length sets < limit → AreMinimalBefore n R sets → (longer : List ℕ) → longer ≡ sets ++ R ∷ [] → AreKept bound places n limit longer more
  kept_more same kept sizes as_many hold lt before longer is = subst (λ xs. AreKept bound places n limit xs more) (sym is) (record {
    few = omega (arith, length-append sets (R ∷ []), lt);
    ordered = ordered_push sets R kept.ordered (λ C has. ((before C).0 has).1);
    rows = as_many ∙ kept.rows;
    sizes = sizes;
    hold = subst (λ xs. AreSiphonsOf places n (xs ++ R ∷ []) more) same hold;
  })
