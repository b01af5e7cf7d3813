-- The search for the next candidate, by size, greatest member, and the rest.
use Rattle.std.proofs.Common.{◌≡◌, ℕ, suc, ◌+◌, ◌-◌, ◌*◌, ◌/◌, ◌%◌, ◌^◌, ◌<◌, ◌≤◌, Option, Some, None, inl, inr, refl, sym, ap, ◌∙◌, subst, ⊎_elim, arith, pow-suc}
use Rattle.std.specs.Prelude.{◌==◌, IsTrue, MatchOption}
use Rattle.std.specs.Int.RustNames.{count_ones}
use Rattle.std.proofs.lemmas.Bool.{cases_lt, cases_eq}
use Rattle.std.proofs.lemmas.Nat.{shr_split, pow_pos, ones_cat, zero_from_ones, leading_top}
use Rattle.std.proofs.Math.Nat.{div-eq_of_lt-le, div-eq_of_lt}
use Rattle.std.specs.Int.Count.{count_leading_zeros}
use Rattle.place_sets.specs.Sets.{IsPartOf}
use Rattle.net_laws.specs.Net.{Net}
use Rattle.net_laws.specs.Candidates.{IsCandidate, members}
use Rattle.candidates.specs.Subsets.{IsChoice, HasNoChoice, IsLeastChoice}
use Rattle.candidates.specs.Next.{IsBehind, IsLast, IsNext}
use Rattle.candidates.specs.Sized.{IsSized, HasTop, IsLeastSized, IsLeastTopped, IsSizedStart, IsLeastRest, IsFirstLarger}
use Rattle.candidates.proofs.Numbers.{low_below, part_le, ones_split, ones_bit}

-- ---- a set and its greatest member

top_part : (C top : ℕ) → HasTop C top → C / 2 ^ top ≡ 1
top_part C top is = div-eq_of_lt-le {k = 1} (2 ^ top) (omega (arith, is.0)) (omega (arith, is.1, pow-suc 2 top))

pub top_member : (C top : ℕ) → HasTop C top → IsTrue (members C top)
top_member C top is = ap (λ x. x % 2 == 1) (top_part C top is)

pub top_split : (C top : ℕ) → HasTop C top → 2 ^ top + C % 2 ^ top ≡ C
top_split C top is =
    let high : C / 2 ^ top * 2 ^ top ≡ 1 * 2 ^ top = ap (λ x. x * 2 ^ top) (top_part C top is) in
    omega (arith, shr_split C top, high)

pub top_ones : (C top : ℕ) → HasTop C top → count_ones C ≡ 1 + count_ones (C % 2 ^ top)
top_ones C top is =
    let high : count_ones (C / 2 ^ top) ≡ 1 = ap count_ones (top_part C top is) ∙ ones_bit 1 (omega arith) in
    omega (arith, ones_split C top, high)

one_shifted : (P r : ℕ) → 1 * P + r ≡ P + r
one_shifted P r = omega arith

-- the greatest member put to a part of what is below it
pub topped_ones : (top rest : ℕ) → rest < 2 ^ top → count_ones (2 ^ top + rest) ≡ 1 + count_ones rest
topped_ones top rest lt =
    let one = ones_bit 1 (omega arith) in
    let cat = ones_cat top 1 rest lt in
    let whole = ap count_ones (one_shifted (2 ^ top) rest) in
    omega (arith, cat, whole, one)

pub topped_top : (top rest : ℕ) → rest < 2 ^ top → HasTop (2 ^ top + rest) top
topped_top top rest lt = (omega arith, omega (arith, pow-suc 2 top))

-- the rest of a candidate is a part of the room
abbrev pub IsRoom : Net → ℕ → ℕ → Type 0
IsRoom n top room = (C : ℕ) → IsCandidate n (members C) → HasTop C top → IsPartOf (members (C % 2 ^ top)) (members room)

rest_choice : (n : Net) (room top size after C : ℕ) → IsRoom n top room → IsSized n size after C → HasTop C top → IsChoice room (size - 1) (C % 2 ^ top)
rest_choice n room top size after C rests is topped = record {
  part = rests C is.candidate topped;
  count = omega (arith, top_ones C top topped, is.count);
}

-- where the search begins: the rest of the set behind which it looks
pub start_choice : (n : Net) (room top size after : ℕ) → IsRoom n top room → IsSizedStart n size after → after < 2 ^ suc top → 2 ^ top ≤ after → IsChoice room (size - 1) (after % 2 ^ top)
start_choice n room top size after rests start within from =
    ⊎_elim
    (λ none. absurd (omega (arith, none, pow_pos top)))
    (λ is. record { part = rests after is.0 (from, within); count = omega (arith, top_ones after top (from, within), is.1) })
    start

-- ---- which candidates are still to come

-- the rest is a part of the room with as many members as are wanted; each candidate of the size and with the top has no lesser mask
pub record IsNextRest (n : Net) (room size after top rest : ℕ) : Type 0 where
  pub choice : IsChoice room (size - 1) rest
  pub above : after < 2 ^ top + rest
  pub passed : (C : ℕ) → IsSized n size after C → HasTop C top → 2 ^ top + rest ≤ C

pub next_rest_first : (n : Net) (room size after top rest : ℕ) → IsRoom n top room → IsLeastRest room (size - 1) after top rest → IsNextRest n room size after top rest
next_rest_first n room size after top rest rests is = record {
  choice = is.choice;
  above = is.above;
  passed = λ C sized topped.
      let split = top_split C top topped in
      omega (arith, is.least (C % 2 ^ top) (rest_choice n room top size after C rests sized topped) (omega (arith, sized.above)));
}

pub none_first : (n : Net) (room size after top : ℕ) → IsRoom n top room → ((rest : ℕ) → IsChoice room (size - 1) rest → 2 ^ top + rest ≤ after) → (C : ℕ) → IsSized n size after C → HasTop C top → ⊥
none_first n room size after top rests none C sized topped =
    omega (arith, top_split C top topped, none (C % 2 ^ top) (rest_choice n room top size after C rests sized topped), sized.above)

rest_passed : (n : Net) (room size after top rest C : ℕ) → IsRoom n top room → IsNextRest n room size after top rest → (IsCandidate n (members (2 ^ top + rest)) → ⊥) → IsSized n size after C → HasTop C top → rest < C % 2 ^ top
rest_passed n room size after top rest C rests is fails sized topped =
    let split = top_split C top topped in
    let le = is.passed C sized topped in
    ⊎_elim
    (λ same. absurd (fails (subst (λ x. IsCandidate n (members x)) same sized.candidate)))
    (λ differs. omega (arith, le, split, differs))
    (cases_eq C (2 ^ top + rest))

pub next_rest_more : (n : Net) (room size after top rest next : ℕ) → IsRoom n top room → IsNextRest n room size after top rest → (IsCandidate n (members (2 ^ top + rest)) → ⊥) → IsLeastChoice room (count_ones rest) (suc rest) next → IsNextRest n room size after top next
next_rest_more n room size after top rest next rests is fails least = record {
  choice = record { part = least.choice.part; count = least.choice.count ∙ is.choice.count };
  above = omega (arith, is.above, least.from_here);
  passed = λ C sized topped.
      let choice = rest_choice n room top size after C rests sized topped in
      let lt = rest_passed n room size after top rest C rests is fails sized topped in
      let le = least.least (C % 2 ^ top) (record { part = choice.part; count = choice.count ∙ sym is.choice.count }) lt in
      omega (arith, top_split C top topped, le);
}

pub none_more : (n : Net) (room size after top rest : ℕ) → IsRoom n top room → IsNextRest n room size after top rest → (IsCandidate n (members (2 ^ top + rest)) → ⊥) → HasNoChoice room (count_ones rest) (suc rest) → (C : ℕ) → IsSized n size after C → HasTop C top → ⊥
none_more n room size after top rest rests is fails none C sized topped =
    let choice = rest_choice n room top size after C rests sized topped in
    let lt = rest_passed n room size after top rest C rests is fails sized topped in
    omega (arith, lt, none (C % 2 ^ top) (record { part = choice.part; count = choice.count ∙ sym is.choice.count }))

-- the rest with the top, where it is a candidate
pub topped_found : (n : Net) (room size after top rest found : ℕ) → 0 < size → room < 2 ^ top → found < 2 ^ 64 → found ≡ rest + 2 ^ top → IsNextRest n room size after top rest → IsCandidate n (members found) → IsLeastTopped n size after top found
topped_found n room size after top rest found some small below is next candidate =
    let swapped : found ≡ 2 ^ top + rest = omega (arith, is) in
    let lt : rest < 2 ^ top = omega (arith, part_le rest room next.choice.part) in record {
      sized = record {
        below = below;
        candidate = candidate;
        count = omega (arith, ap count_ones swapped, topped_ones top rest lt, next.choice.count, some);
        above = omega (arith, swapped, next.above);
      };
      topped = subst (λ x. HasTop x top) (sym swapped) (topped_top top rest lt);
      least = λ Q sized topped. omega (arith, swapped, next.passed Q sized topped);
    }

-- a rest has no member from the top on, so that the top is put to it
pub rest_small : (room top rest size : ℕ) → room < 2 ^ top → IsChoice room size rest → rest < 2 ^ top
rest_small room top rest size small choice = omega (arith, part_le rest room choice.part)

-- ---- sizes

-- no candidate of a size has a lesser greatest member
pub sized_least : (n : Net) (size after top found : ℕ) → ((C : ℕ) → IsSized n size after C → 2 ^ top ≤ C) → IsLeastTopped n size after top found → IsLeastSized n size after found
sized_least n size after top found from is = record {
  sized = is.sized;
  least = λ Q sized.
      ⊎_elim
      (λ topped. is.least Q sized (from Q sized, topped))
      (λ above. omega (arith, is.topped.1, above))
      (cases_lt Q (2 ^ suc top));
}

pub tops_passed : (n : Net) (size after top : ℕ) → ((C : ℕ) → IsSized n size after C → 2 ^ top ≤ C) → ((C : ℕ) → IsSized n size after C → HasTop C top → ⊥) → (C : ℕ) → IsSized n size after C → 2 ^ (top + 1) ≤ C
tops_passed n size after top from none C sized =
    ⊎_elim
    (λ topped. absurd (none C sized (from C sized, topped)))
    (λ above. subst (λ x. 2 ^ x ≤ C) (next top) above)
    (cases_lt C (2 ^ suc top))
  where
    next : (k : ℕ) → suc k ≡ k + 1
    next k = omega arith

pub larger_found : (n : Net) (size larger found : ℕ) → size < larger → ((C : ℕ) → C < 2 ^ 64 → IsCandidate n (members C) → size < count_ones C → larger ≤ count_ones C) → IsLeastSized n larger 0 found → IsFirstLarger n size found
larger_found n size larger found more from is = record {
  below = is.sized.below;
  candidate = is.sized.candidate;
  larger = omega (arith, is.sized.count, more);
  first = λ Q lt candidate many.
      ⊎_elim
      (λ above. inr (inl (omega (arith, is.sized.count, above))))
      (λ le.
      let count : count_ones Q ≡ larger = omega (arith, le, from Q lt candidate many) in
      let least = is.least Q (sized_from Q lt candidate count) in
      ⊎_elim
      (λ less. inr (inr (is.sized.count ∙ sym count, less)))
      (λ no_less. inl (omega (arith, least, no_less)))
      (cases_lt found Q))
      (cases_lt larger (count_ones Q));
}
  where
    sized_from : (Q : ℕ) → Q < 2 ^ 64 → IsCandidate n (members Q) → count_ones Q ≡ larger → IsSized n larger 0 Q
    sized_from Q lt candidate count = record { below = lt; candidate = candidate; count = count; above = positive Q count }
      where
        positive : (x : ℕ) → count_ones x ≡ larger → 0 < x
        positive x c = ⊎_elim (λ some. some) (λ none. let zero_is : x ≡ 0 = omega (arith, none) in absurd (omega (arith, c, ap count_ones zero_is, ones_bit 0 (omega arith), more))) (cases_lt 0 x)

pub larger_passed : (n : Net) (size larger : ℕ) → size < larger → ((C : ℕ) → C < 2 ^ 64 → IsCandidate n (members C) → size < count_ones C → larger ≤ count_ones C) → ((C : ℕ) → IsSized n larger 0 C → ⊥)
    → (C : ℕ) → C < 2 ^ 64 → IsCandidate n (members C) → size < count_ones C → larger + 1 ≤ count_ones C
larger_passed n size larger more from none C lt candidate many =
    ⊎_elim
    (λ above. omega (arith, above))
    (λ le.
    let count : count_ones C ≡ larger = omega (arith, le, from C lt candidate many) in
    absurd (none C (record { below = lt; candidate = candidate; count = count; above = ⊎_elim (λ some. some) (λ no. let zero_is : C ≡ 0 = omega (arith, no) in absurd (omega (arith, count, ap count_ones zero_is, ones_bit 0 (omega arith), more))) (cases_lt 0 C) })))
    (cases_lt larger (count_ones C))

-- ---- the next one

pub next_same_size : (n : Net) (after found : ℕ) → IsLeastSized n (count_ones after) after found → IsNext n after found
next_same_size n after found is = record {
  is = record { below = is.sized.below; candidate = is.sized.candidate; behind = inr (sym is.sized.count, is.sized.above) };
  first = λ C behind.
      ⊎_elim
      (λ fewer. inr (inl (omega (arith, is.sized.count, fewer))))
      (λ less.
      let least = is.least C (record { below = behind.below; candidate = behind.candidate; count = sym less.0; above = less.1 }) in
      ⊎_elim
      (λ lt. inr (inr (is.sized.count ∙ less.0, lt)))
      (λ le. inl (omega (arith, least, le)))
      (cases_lt found C))
      behind.behind;
}

-- no candidate of the same size stands behind the set
abbrev pub HasNoneOfSize : Net → ℕ → Type 0
HasNoneOfSize n after = (C : ℕ) → IsSized n (count_ones after) after C → ⊥

larger_behind : (n : Net) (after C : ℕ) → HasNoneOfSize n after → IsBehind n after C → count_ones after < count_ones C
larger_behind n after C none behind =
    ⊎_elim
    (λ fewer. fewer)
    (λ less. absurd (none C (record { below = behind.below; candidate = behind.candidate; count = sym less.0; above = less.1 })))
    behind.behind

pub next_larger_size : (n : Net) (after found : ℕ) → HasNoneOfSize n after → IsFirstLarger n (count_ones after) found → IsNext n after found
next_larger_size n after found none is = record {
  is = record { below = is.below; candidate = is.candidate; behind = inl is.larger };
  first = λ C behind. is.first C behind.below behind.candidate (larger_behind n after C none behind);
}

pub none_behind : (n : Net) (after : ℕ) → HasNoneOfSize n after → ((C : ℕ) → C < 2 ^ 64 → IsCandidate n (members C) → count_ones C ≤ count_ones after) → IsLast n after
none_behind n after none few C behind = omega (arith, larger_behind n after C none behind, few C behind.below behind.candidate)

-- only the empty set has the size of the empty set
pub none_of_size_zero : (n : Net) (after : ℕ) → after ≡ 0 → HasNoneOfSize n after
none_of_size_zero n after is C sized =
    let zeros : count_ones after ≡ 0 = ap count_ones is ∙ ones_bit 0 (omega arith) in
    let empty = zero_from_ones C (omega (arith, sized.count, zeros)) in
    omega (arith, sized.above, empty)

-- ---- where the search begins

pub below_top : (t q : ℕ) → t / 2 ^ q ≡ 0 → t < 2 ^ q
below_top t q none =
    let high : t / 2 ^ q * 2 ^ q ≡ 0 * 2 ^ q = ap (λ x. x * 2 ^ q) none in
    omega (arith, shr_split t q, high, low_below t q)

pub has_top : (t q : ℕ) → (t / 2 ^ q ≡ 0 → ⊥) → 2 ^ q ≤ t
has_top t q some = ⊎_elim (λ lt. absurd (some (div-eq_of_lt lt))) (λ le. le) (cases_lt t (2 ^ q))

pub rest_low : (room size after top rest : ℕ) → after < 2 ^ top → IsLeastChoice room size 0 rest → IsLeastRest room size after top rest
rest_low room size after top rest lt is = record {
  choice = is.choice;
  above = omega arith;
  least = λ other choice above. is.least other choice (omega arith);
}

pub rest_next : (room size after top rest : ℕ) → HasTop after top → count_ones (after % 2 ^ top) ≡ size → IsLeastChoice room (count_ones (after % 2 ^ top)) (suc (after % 2 ^ top)) rest → IsLeastRest room size after top rest
rest_next room size after top rest topped count is =
    let split = top_split after top topped in record {
      choice = record { part = is.choice.part; count = is.choice.count ∙ count };
      above = omega (arith, is.from_here);
      least = λ other choice above. is.least other (record { part = choice.part; count = choice.count ∙ sym count }) (omega arith);
    }

pub no_rest_next : (room size after top : ℕ) → HasTop after top → count_ones (after % 2 ^ top) ≡ size → HasNoChoice room (count_ones (after % 2 ^ top)) (suc (after % 2 ^ top)) → (rest : ℕ) → IsChoice room size rest → 2 ^ top + rest ≤ after
no_rest_next room size after top topped count none rest choice =
    omega (arith, top_split after top topped, none rest (record { part = choice.part; count = choice.count ∙ sym count }))

zeros_of_none : count_leading_zeros 64 0 ≡ 64
unfolding count_leading_zeros
zeros_of_none = refl

-- the greatest member by its place
pub greatest_is : (set top : ℕ) → set < 2 ^ 64 → top ≡ 63 - count_leading_zeros 64 set → (top < 64) × (set < 2 ^ suc top) × ((other : ℕ) → set < other → 2 ^ top ≤ other)
greatest_is set top lt is =
    ⊎_elim
    (λ some.
    let t = leading_top 64 set some lt in
    let same : top ≡ t.0 = omega (arith, is, t.1) in
    subst (λ x. (x < 64) × (set < 2 ^ suc x) × ((other : ℕ) → set < other → 2 ^ x ≤ other)) (sym same)
    (omega (arith, t.1), t.3, λ other above. omega (arith, t.2, above)))
    (λ none.
    let empty : set ≡ 0 = omega arith in
    let zeros : count_leading_zeros 64 set ≡ 64 = ap (count_leading_zeros 64) empty ∙ zeros_of_none in
    let first : top ≡ 0 = omega (arith, is, zeros) in
    subst (λ x. (x < 64) × (set < 2 ^ suc x) × ((other : ℕ) → set < other → 2 ^ x ≤ other)) (sym first)
    (omega arith, omega (arith, empty), λ other above. omega (arith, above)))
    (cases_lt 0 set)

-- how many rests are left to look at
abbrev pub rests_left : ℕ → Option ℕ → ℕ
rests_left room None = 0
rests_left room (Some rest) = suc (room - rest)

pub rests_fall : (room rest : ℕ) (next result : Option ℕ) → next ≡ Some rest → MatchOption result (HasNoChoice room (count_ones rest) (suc rest)) (λ t. IsLeastChoice room (count_ones rest) (suc rest) t)
    → rests_left room result < rests_left room next
rests_fall room rest next result is found = subst (λ o. rests_left room result < rests_left room o) (sym is) (falls room rest result found)
  where
    falls : (room rest : ℕ) (result : Option ℕ) → MatchOption result (HasNoChoice room (count_ones rest) (suc rest)) (λ t. IsLeastChoice room (count_ones rest) (suc rest) t) → rests_left room result < suc (room - rest)
    falls room rest None none = omega arith
    falls room rest (Some t) least = omega (arith, least.from_here, part_le t room least.choice.part)

-- what is found first is where the search begins
pub search_begins : (n : Net) (room size after top : ℕ) (result : Option ℕ) → IsRoom n top room
    → MatchOption result ((rest : ℕ) → IsChoice room (size - 1) rest → 2 ^ top + rest ≤ after) (λ rest. IsLeastRest room (size - 1) after top rest)
    → MatchOption result ((C : ℕ) → IsSized n size after C → HasTop C top → ⊥) (λ rest. IsNextRest n room size after top rest)
search_begins n room size after top None rests none = none_first n room size after top rests none
search_begins n room size after top (Some rest) rests least = next_rest_first n room size after top rest rests least

-- what comes next is where the search goes on
pub search_goes_on : (n : Net) (room size after top rest : ℕ) (result : Option ℕ) → IsRoom n top room → IsNextRest n room size after top rest → (IsCandidate n (members (2 ^ top + rest)) → ⊥)
    → MatchOption result (HasNoChoice room (count_ones rest) (suc rest)) (λ t. IsLeastChoice room (count_ones rest) (suc rest) t)
    → MatchOption result ((C : ℕ) → IsSized n size after C → HasTop C top → ⊥) (λ t. IsNextRest n room size after top t)
search_goes_on n room size after top rest None rests is fails none = none_more n room size after top rest rests is fails none
search_goes_on n room size after top rest (Some t) rests is fails least = next_rest_more n room size after top rest t rests is fails least

-- the rest of a set with the top, and the next one
pub rest_after : (room size after top low : ℕ) (result : Option ℕ) → low ≡ after % 2 ^ top → HasTop after top → IsChoice room size (after % 2 ^ top)
    → MatchOption result (HasNoChoice room (count_ones low) (suc low)) (λ t. IsLeastChoice room (count_ones low) (suc low) t)
    → MatchOption result ((rest : ℕ) → IsChoice room size rest → 2 ^ top + rest ≤ after) (λ rest. IsLeastRest room size after top rest)
rest_after room size after top low result is topped choice found =
    by_result room size after top result topped choice.count
    (subst (λ x. MatchOption result (HasNoChoice room (count_ones x) (suc x)) (λ t. IsLeastChoice room (count_ones x) (suc x) t)) is found)
  where
    by_result : (room size after top : ℕ) (result : Option ℕ) → HasTop after top → count_ones (after % 2 ^ top) ≡ size
        → MatchOption result (HasNoChoice room (count_ones (after % 2 ^ top)) (suc (after % 2 ^ top))) (λ t. IsLeastChoice room (count_ones (after % 2 ^ top)) (suc (after % 2 ^ top)) t)
        → MatchOption result ((rest : ℕ) → IsChoice room size rest → 2 ^ top + rest ≤ after) (λ rest. IsLeastRest room size after top rest)
    by_result room size after top None topped count none = no_rest_next room size after top topped count none
    by_result room size after top (Some rest) topped count least = rest_next room size after top rest topped count least

-- what is found of larger sets is the answer where none of the same size is left
pub next_by_size : (n : Net) (after : ℕ) (result : Option ℕ) → HasNoneOfSize n after
    → MatchOption result ((C : ℕ) → C < 2 ^ 64 → IsCandidate n (members C) → count_ones C ≤ count_ones after) (λ found. IsFirstLarger n (count_ones after) found)
    → MatchOption result (IsLast n after) (λ next. IsNext n after next)
next_by_size n after None none few = none_behind n after none few
next_by_size n after (Some found) none first = next_larger_size n after found none first

pub some_size : (after : ℕ) → (after ≡ 0 → ⊥) → 0 < count_ones after
some_size after some = ⊎_elim (λ lt. lt) (λ none. absurd (some (zero_from_ones after (omega arith)))) (cases_lt 0 (count_ones after))
