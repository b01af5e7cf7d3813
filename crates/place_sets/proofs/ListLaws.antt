-- Laws of sorted lists of places.
use Rattle.std.proofs.Common.{◌≡◌, ◌≢◌, ℕ, zero, suc, ◌+◌, ◌-◌, ◌<◌, ◌≤◌, Bool, true, false, ◌||◌, List, [], ◌∷◌, length, get_or, refl, sym, ap, subst, ◌∙◌, arith, inl, inr, count_by, slice_index, ◌==◌, All, insert, Result, Ok, Err, is_ok}
use Rattle.std.specs.List.{range_with_len}
use Rattle.std.specs.List.Sorted.{IsStrictlyIncreasing, IsStrictlySortedBy, IsBinarySearchResult}
use Rattle.std.specs.Ordering.{nat_cmp}
use Rattle.std.proofs.lemmas.Bool.{cases_order, cases_eq, cases_lt, ne_eqb, eq-eqb, eqb-true, or_left, true≢false}
use Rattle.std.proofs.Math.Bool.{or_comm, or-false}
use Rattle.std.proofs.lemmas.List.Edits.{get_or-insert_at, get_or-insert_below, get_or-insert_above, length-insert}
use Rattle.std.proofs.lemmas.List.Folds.{list_any_none, list_any_at, Any-from_list_any}
use Rattle.std.proofs.lemmas.List.Sorted.{searched, IsPermutation-insert, list_any-IsPermutation}
use Rattle.std.proofs.lemmas.Map.Keys.{below_from_sorted, sorted_tail, sorted_from_strictly_increasing}
use Rattle.std.proofs.lemmas.Grind.{get_or_default_zero}
use Rattle.place_sets.specs.Lists.{stands_in}
use Rattle.place_sets.specs.Sets.{AreSame, IsPartOf, HasGained}
use Rattle.place_sets.proofs.Counts.{one_if, count_first, count_alike, count_parts, count_none}

-- each number is below those after it
abbrev pub Rises : List ℕ → Type 0
Rises = IsStrictlySortedBy nat_cmp

-- ---- a place in a list

pub absent : (places : List ℕ) (place : ℕ) → All (λ other. other ≢ place) places → stands_in places place ≡ false
absent places place none =
    list_any_none (λ other. other == place) places (λ k d within. ne_eqb (get_or places k d) place (none k d within))

later_above : (first : ℕ) (rest : List ℕ) → Rises (first ∷ rest) → All (λ other. first < other) rest
later_above first rest rises k d within = below_from_sorted (first ∷ rest) 0 (suc k) d rises (omega arith) (omega arith)

absent_before : (first : ℕ) (rest : List ℕ) (place : ℕ) → Rises (first ∷ rest) → place < first → stands_in (first ∷ rest) place ≡ false
absent_before first rest place rises below = absent (first ∷ rest) place (elim [
  | zero ↦ λ d within e. absurd (omega arith)
  | suc k ↦ λ d within e. absurd (omega (arith, later_above first rest rises k d (omega arith)))
])

absent_later : (first : ℕ) (rest : List ℕ) → Rises (first ∷ rest) → stands_in rest first ≡ false
absent_later first rest rises = absent rest first (λ k d within e. absurd (omega (arith, later_above first rest rises k d within)))

first_stands : (first : ℕ) (rest : List ℕ) → stands_in (first ∷ rest) first ≡ true
first_stands first rest = list_any_at (λ other. other == first) (first ∷ rest) 0 0 (omega arith) (eq-eqb first first refl)

-- a place that isn't the first
stands_later : (first : ℕ) (rest : List ℕ) (place : ℕ) → first ≢ place → stands_in (first ∷ rest) place ≡ stands_in rest place
stands_later first rest place other = ap (λ b. b || stands_in rest place) (ne_eqb first place other)

-- ---- a search

never_falls : (places : List ℕ) → IsStrictlyIncreasing places → (i j : ℕ) → i ≤ j → j < length places → get_or places i 0 ≤ get_or places j 0
never_falls places rises i j le within = elim (cases_eq i j) [
  | inl same ↦ omega (arith, ap (λ k. get_or places k 0) same)
  | inr apart ↦ omega (arith, below_from_sorted places i j 0 (sorted_from_strictly_increasing places rises) (omega arith) within)
]

pub stands_from_search : (places : List ℕ) (place : ℕ) (r : Result ℕ ℕ) → IsStrictlyIncreasing places → IsBinarySearchResult (λ y. nat_cmp y place) places r
    → is_ok r ≡ stands_in places place
stands_from_search places place (Ok at) rises found =
    let here = searched places place (Ok at) found (never_falls places rises) in
    sym (list_any_at (λ other. other == place) places at 0 here.0 (eq-eqb _ place here.1))
stands_from_search places place (Err at) rises found =
    let between = searched places place (Err at) found (never_falls places rises) in
    sym (absent places place (λ k d within e.
    let same = get_or_default_zero places k d within in
    elim (cases_lt k at) [
      | inl early ↦ absurd (omega (arith, same, between.1 k early))
      | inr late ↦ absurd (omega (arith, same, between.2 k late within))
    ]))

-- where a place that isn't in the list would stand
pub between_from_search : (places : List ℕ) (place at : ℕ) → IsStrictlyIncreasing places → IsBinarySearchResult (λ y. nat_cmp y place) places (Err at)
    → (at ≤ length places) × ((k : ℕ) → k < at → get_or places k 0 < place) × ((k : ℕ) → at ≤ k → k < length places → place < get_or places k 0)
between_from_search places place at rises found = searched places place (Err at) found (never_falls places rises)

-- ---- a list within a set

pub part_from_all : (places : List ℕ) (set : ℕ → Bool) → ((k : ℕ) → k < length places → set (slice_index places k) ≡ true) → IsPartOf (stands_in places) set
part_from_all places set all place stands =
    let found = Any-from_list_any (λ other. other == place) places stands in
    let is : slice_index places found.0 ≡ place =
    sym (get_or_default_zero places found.0 found.1 found.2) ∙ found.3 ∙ eqb-true found.1 place found.4 in
    subst (λ (p : ℕ). set p ≡ true) is (all found.0 found.2)

pub stands_at : (places : List ℕ) (k d : ℕ) → k < length places → stands_in places (get_or places k d) ≡ true
stands_at places k d within = list_any_at (λ other. other == get_or places k d) places k d within (eq-eqb _ _ refl)

-- ---- how many

pub places_are_counted : (places : List ℕ) (from n : ℕ) → Rises places → All (λ place. from ≤ place) places → All (λ place. place < from + n) places
    → count_by (stands_in places) (range_with_len from n) ≡ length places
places_are_counted [] from n rises above below = count_none (stands_in []) from n (λ i low high. refl)
places_are_counted (x ∷ xs) from n rises above below =
    let low : from ≤ x = above 0 0 (omega arith) in
    let high : x < from + n = below 0 0 (omega arith) in
    let left = from + n - suc x in
    let parts = count_parts (stands_in (x ∷ xs)) from x (x - from) (suc left) n (omega arith) (omega arith) in
    let before = count_none (stands_in (x ∷ xs)) from (x - from) (λ i _ less. absent_before x xs i rises (omega arith)) in
    let here = count_first (stands_in (x ∷ xs)) x (range_with_len (x + 1) left) in
    let is : one_if (stands_in (x ∷ xs) x) ≡ 1 = ap one_if (first_stands x xs) in
    let alike = count_alike (stands_in (x ∷ xs)) (stands_in xs) (x + 1) (x + 1) left (λ i j e more _. let same : i ≡ j = omega arith in
    stands_later x xs i (λ first. absurd (omega arith)) ∙ ap (stands_in xs) same) in
    let rest = places_are_counted xs (x + 1) left (sorted_tail nat_cmp x xs rises) (λ k d within. omega (arith, later_above x xs rises k d within))
    (λ k d within. omega (arith, below (suc k) d (omega arith))) in
    omega (arith, parts, before, here, is, alike, rest)

-- ---- the same places

pub same_lists : (xs ys : List ℕ) → Rises xs → Rises ys → AreSame (stands_in xs) (stands_in ys) → xs ≡ ys
same_lists [] [] one other same = refl
same_lists [] (y ∷ ys) one other same = absurd (true≢false (sym (first_stands y ys) ∙ sym (same y)))
same_lists (x ∷ xs) [] one other same = absurd (true≢false (sym (first_stands x xs) ∙ same x))
same_lists (x ∷ xs) (y ∷ ys) one other same = elim (cases_order x y) [
  | inr apart ↦ elim apart [
    | inl less ↦ absurd (true≢false (sym (first_stands x xs) ∙ same x ∙ absent_before y ys x other less))
    | inr more ↦ absurd (true≢false (sym (first_stands y ys) ∙ sym (same y) ∙ absent_before x xs y one more))
  ]
  | inl is ↦
      let rest = same_lists xs ys (sorted_tail nat_cmp x xs one) (sorted_tail nat_cmp y ys other) (λ place. elim (cases_eq x place) [
        | inl first ↦
            ap (λ p. stands_in xs p) (sym first) ∙ absent_later x xs one
            ∙ sym (ap (λ p. stands_in ys p) (sym first ∙ is) ∙ absent_later y ys other)
        | inr later ↦ sym (stands_later x xs place later) ∙ same place ∙ stands_later y ys place (λ e. later (is ∙ e))
      ]) in
      ap (λ first. first ∷ xs) is ∙ ap (λ rest. y ∷ rest) rest
]

-- ---- a place more

pub gains_place : (places : List ℕ) (at place : ℕ) → HasGained (stands_in places) (stands_in (insert places at place)) place
gains_place places at place other =
    sym (list_any-IsPermutation (λ p. p == other) (place ∷ places) (insert places at place) (IsPermutation-insert places at place))
    ∙ or_comm (place == other) (stands_in places other)
    ∙ ap (λ b. stands_in places other || b) (tests_agree place other)
  where
    tests_agree : (a b : ℕ) → (a == b) ≡ (b == a)
    tests_agree a b = elim (cases_eq a b) [
      | inl is ↦ eq-eqb a b is ∙ sym (eq-eqb b a (sym is))
      | inr differ ↦ ne_eqb a b differ ∙ sym (ne_eqb b a (λ e. differ (sym e)))
    ]

pub had_place : (places : List ℕ) (place : ℕ) → stands_in places place ≡ true → HasGained (stands_in places) (stands_in places) place
had_place places place stands other = elim (cases_eq other place) [
  | inl is ↦
      let there : stands_in places other ≡ true = ap (λ p. stands_in places p) is ∙ stands in
      there ∙ sym (or_left (stands_in places other) (other == place) there)
  | inr differs ↦ sym (ap (λ b. stands_in places other || b) (ne_eqb other place differs) ∙ or-false (stands_in places other))
]

-- a place between those below it and those above it
pub insert_rises : (places : List ℕ) (at place : ℕ) → IsStrictlyIncreasing places → at ≤ length places
    → ((k : ℕ) → k < at → get_or places k 0 < place) → ((k : ℕ) → at ≤ k → k < length places → place < get_or places k 0) → IsStrictlyIncreasing (insert places at place)
insert_rises places at place rises within below above k more =
    let long = length-insert places at place within in
    elim (cases_order (k + 1) at) [
      | inl last ↦ omega (arith, get_or-insert_below places at place 0 k (omega arith) within, ap (λ i. get_or (insert places at place) i 0) last, get_or-insert_at places at place 0 within, below k (omega arith))
      | inr apart ↦ elim apart [
        | inl early ↦ omega (arith, get_or-insert_below places at place 0 k (omega arith) within, get_or-insert_below places at place 0 (k + 1) early within, rises k (omega arith))
        | inr late ↦
            let next = get_or-insert_above places at place 0 k (omega arith) within in
            elim (cases_eq k at) [
              | inl here ↦ omega (arith, ap (λ i. get_or (insert places at place) i 0) here, get_or-insert_at places at place 0 within, next, above k (omega arith) (omega arith))
              | inr later ↦
                  let before = get_or-insert_above places at place 0 (k - 1) (omega arith) within in
                  let is : k - 1 + 1 ≡ k = omega arith in
                  omega (arith, before, ap (λ i. get_or (insert places at place) i 0) is, next, rises (k - 1) (omega arith), ap (λ i. get_or places i 0) is)
            ]
      ]
    ]

pub insert_below : (places : List ℕ) (at place size : ℕ) → at ≤ length places → place < size → All (λ other. other < size) places → All (λ other. other < size) (insert places at place)
insert_below places at place size within less below k d more =
    let long = length-insert places at place within in
    elim (cases_order k at) [
      | inl here ↦ omega (arith, ap (λ i. get_or (insert places at place) i d) here, get_or-insert_at places at place d within)
      | inr apart ↦ elim apart [
        | inl early ↦ omega (arith, get_or-insert_below places at place d k early within, below k d (omega arith))
        | inr late ↦
            let is : k - 1 + 1 ≡ k = omega arith in
            omega (arith, ap (λ i. get_or (insert places at place) i d) is, get_or-insert_above places at place d (k - 1) (omega arith) within, below (k - 1) d (omega arith))
      ]
    ]
