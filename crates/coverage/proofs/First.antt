-- Minimal sets in order, up to the first bad one.
use Rattle.std.proofs.Common.{◌≡◌, ℕ, ◌+◌, ◌<◌, ◌≤◌, Bool, true, false, List, length, refl, sym, subst, ap, ◌∙◌, Some, None, inl, inr, arith}
use Rattle.std.specs.declared.option.Option.{Option}
use Rattle.certificate.specs.declared.Line.{Line}
use Rattle.gadara_net.specs.Bounds.{IsFirst}
use Rattle.std.specs.Prelude.{◌↔◌, AllPairs, Contains, IsTrue, MatchBool, MatchOption, Result, Ok, Err, IsErr, IsErrAnd, is_some, slice_get, slice_index_or}
use Rattle.std.proofs.lemmas.Bool.{cases_lt}
use Rattle.std.proofs.lemmas.Option.{slice_get_within, slice_get_read, get_or_from_slice_get}
use Rattle.net_laws.specs.Net.{Net}
use Rattle.net_laws.specs.Candidates.{IsMinimal, members}
use Rattle.net_laws.specs.Lines.{IsBad, IsCovered}
use Rattle.candidates.specs.Order.{IsBefore}
use Rattle.candidates.proofs.Order.{before_cases, before_not, before_trans}
use Rattle.siphon_enum.specs.Listed.{AreAllMinimal}
use Rattle.coverage.specs.Bad.{HasSimpleLine, IsFirstBad, FirstBadIsOne, CoveredHaveNoBad}

-- a set before another stands before it in the list
stands_before : (sets : List ℕ) → AllPairs IsBefore sets → (j k Q C : ℕ) → slice_get sets j ≡ Some Q → slice_get sets k ≡ Some C → IsBefore Q C → j < k
stands_before sets ordered j k Q C first second before = elim (cases_lt j k) [
  | inl less ↦ less
  | inr more ↦ absurd (elim (cases_lt k j) [
    | inl less ↦ before_not Q (before_trans Q C Q before (pair k j C Q less second first))
    | inr other ↦ let same : j ≡ k = omega (arith, more, other) in before_not Q (subst (λ D. IsBefore Q D) (one k C Q second (subst (λ i. slice_get sets i ≡ Some Q) same first)) before)
  ])
]
  where
    pair : (i m A B : ℕ) → i < m → slice_get sets i ≡ Some A → slice_get sets m ≡ Some B → IsBefore A B
    pair i m A B less at then =
        subst (λ X. IsBefore X B) (get_or_from_slice_get sets i A A at)
        (subst (λ Y. IsBefore (slice_index_or sets i A) Y) (get_or_from_slice_get sets m B A then) (ordered i m A less (slice_get_within sets m B then)))

    one : (i A B : ℕ) → slice_get sets i ≡ Some A → slice_get sets i ≡ Some B → A ≡ B
    one i A B at then = let same : Some A ≡ Some B = sym at ∙ then in cc same

-- a set of a list has a place
somewhere : (sets : List ℕ) (Q : ℕ) → Contains sets Q → (j : ℕ) × (slice_get sets j ≡ Some Q)
somewhere sets Q inside = (inside.0, slice_get_read sets (length sets) inside.0 Q refl inside.1 (sym inside.2))

-- the sets name resources
pub names : (n : Net) (sets : List ℕ) (k C : ℕ) → AreAllMinimal n sets → slice_get sets k ≡ Some C → (r : ℕ) → IsTrue (members C r) → r < n.resources
names n sets k C all at r member =
    let minimal : IsMinimal n C = (all.exact C).0 (k, slice_get_within sets k C at, get_or_from_slice_get sets k C C at) in minimal.candidate.named r member

-- whether there is a first line says whether there is one
pub judged : (n : Net) (C : ℕ) (o : Option Line) (b : Bool) → b ≡ is_some o → MatchOption o (IsBad n C) (λ l. IsFirst n C l) → MatchBool b (HasSimpleLine n C) (IsBad n C)
judged n C None true is first = absurd (cc is)
judged n C None false is first = first
judged n C (Some l) true is first = (l.kind, first.1.simple, first.1.holds)
judged n C (Some l) false is first = absurd (cc is)

-- one set more has a line
pub more_lines : (n : Net) (sets : List ℕ) (k C : ℕ) → slice_get sets k ≡ Some C → HasSimpleLine n C → ((j Q : ℕ) → j < k → slice_get sets j ≡ Some Q → HasSimpleLine n Q)
    → (j Q : ℕ) → j < k + 1 → slice_get sets j ≡ Some Q → HasSimpleLine n Q
more_lines n sets k C at line before j Q less there = elim (cases_lt j k) [
  | inl below ↦ before j Q below there
  | inr more ↦
      let same : k ≡ j = omega (arith, less, more) in
      let both : ◌≡◌ {A = Option ℕ} (Some C) (Some Q) = sym at ∙ ap (slice_get sets) same ∙ there in
      subst (HasSimpleLine n) (some_same C Q both) line
]
  where
    some_same : (a b : ℕ) → ◌≡◌ {A = Option ℕ} (Some a) (Some b) → a ≡ b
    some_same a b e = cc e

err_parts : {Z E : Type 0} (x y : E) → ◌≡◌ {A = Result Z E} (Err x) (Err y) → x ≡ y
err_parts x y e = cc e

-- an error that is handed on
pub residual_is : {Y E : Type 0} (r : Result Y E) (x : E) → IsErr r × IsErrAnd r (λ e. e ≡ x) → r ≡ Err x
residual_is (Ok v) x is = absurd (cc is.0)
residual_is (Err e) x is = ap Err is.1

-- a truth value that is known
pub when_true : (b : Bool) (P Q : Type 0) → b ≡ true → MatchBool b P Q → P
when_true true P Q is it = it
when_true false P Q is it = absurd (cc is)

pub when_false : (b : Bool) (P Q : Type 0) → b ≡ false → MatchBool b P Q → Q
when_false false P Q is it = it
when_false true P Q is it = absurd (cc is)

-- the same error of another result
pub same_error : {X Y E : Type 0} (r : Result Y E) (x y : E) {P : Type 0} → r ≡ Err x → (◌≡◌ {A = Result X E} (Err x) (Err y) ↔ P) → (r ≡ Err y) ↔ P
same_error r x y is iff = (λ e. iff.0 (ap Err (err_parts x y (sym is ∙ e))), λ p. is ∙ ap Err (err_parts x y (iff.1 p)))

-- the first sets have lines, and the next one is bad
pub first_bad : (n : Net) (sets : List ℕ) (k C : ℕ) → AreAllMinimal n sets → slice_get sets k ≡ Some C → IsBad n C → ((j Q : ℕ) → j < k → slice_get sets j ≡ Some Q → HasSimpleLine n Q)
    → IsFirstBad n C
first_bad n sets k C all at bad lines = record {
  minimal = (all.exact C).0 (k, slice_get_within sets k C at, get_or_from_slice_get sets k C C at);
  bad = bad;
  first = λ Q minimal before.
      let there : (j : ℕ) × (slice_get sets j ≡ Some Q) = somewhere sets Q ((all.exact Q).1 minimal) in
      lines there.0 Q (stands_before sets all.ordered there.0 k Q C there.1 at before) there.1;
}

-- all have lines
pub all_covered : (n : Net) (sets : List ℕ) (k : ℕ) → AreAllMinimal n sets → length sets ≤ k → ((j Q : ℕ) → j < k → slice_get sets j ≡ Some Q → HasSimpleLine n Q)
    → IsCovered n
all_covered n sets k all past lines C minimal =
    let there : (j : ℕ) × (slice_get sets j ≡ Some C) = somewhere sets C ((all.exact C).1 minimal) in
    let within : there.0 < length sets = slice_get_within sets there.0 C there.1 in
    lines there.0 C (omega (arith, within, past)) there.1

-- ---- laws

no_line : (n : Net) (C : ℕ) → IsBad n C → HasSimpleLine n C → ⊥
no_line n C bad line = bad line.0 line.1 line.2

pub first_bad_is_one : FirstBadIsOne
first_bad_is_one n C D first second = elim (before_cases C D) [
  | inl before ↦ absurd (no_line n C first.bad (second.first C first.minimal before))
  | inr other ↦ elim other [
    | inl same ↦ same
    | inr after ↦ absurd (no_line n D second.bad (first.first D second.minimal after))
  ]
]

pub covered_have_no_bad : CoveredHaveNoBad
covered_have_no_bad n C covered first = no_line n C first.bad (covered C first.minimal)
