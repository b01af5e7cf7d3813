-- When a candidate is minimal: where its least siphon contains that of no minimal set before it.
use Rattle.std.proofs.Common.{◌≡◌, ℕ, ◌+◌, ◌<◌, ◌^◌, min, nat_eq, List, length, Bool, true, Some, refl, sym, ap, ◌∙◌, subst, ⊎_elim, arith, bit_and}
use Rattle.std.specs.Prelude.{IsTrue, slice_get}
use Rattle.std.specs.Int.{bit_at}
use Rattle.std.proofs.lemmas.Bool.{cases_eq, eqb-true, eq-eqb}
use Rattle.std.proofs.lemmas.Nat.Bits.{bit_at_and, bit_at-lt, same_from_bits}
use Rattle.std.proofs.lemmas.Option.{slice_get_within, slice_get_read, get_or_from_slice_get, same_Some}
use Rattle.place_sets.specs.Sets.{IsPartOf}
use Rattle.net_laws.specs.Net.{Net, IsShaped}
use Rattle.net_laws.specs.Siphons.{LiesIn}
use Rattle.net_laws.specs.Candidates.{IsCandidate, IsMinimal, members}
use Rattle.net_laws.proofs.Least.{as_places}
use Rattle.net_laws.proofs.Masks.{same_mask}
use Rattle.net_laws.proofs.Minimal.{minimal, lies_trans}
use Rattle.candidates.specs.Order.{IsBefore}
use Rattle.candidates.proofs.Order.{before_not}
use Rattle.candidates.proofs.Lying.{lies_before}
use Rattle.siphon_enum.specs.Rows.{IsSiphonOf, ContainsOne}
use Rattle.siphon_enum.specs.Kept.{AreMinimalBefore}

-- a candidate whose least siphon contains that of no minimal set before it is minimal
pub minimal_from : (n : Net) → IsShaped n → (R : ℕ) (sets : List ℕ) → R < 2 ^ 64 → IsCandidate n (members R) → AreMinimalBefore n R sets → (ContainsOne n sets R → ⊥) → IsMinimal n R
minimal_from n shaped R sets small candidate before none = record {
  below = small;
  candidate = candidate;
  alone = λ Q q other lies.
      let m = minimal n shaped Q q other in
      let inside = lies_trans n (members m.0) (members Q) (members R) m.2 lies in
      ⊎_elim
      (λ same. same_mask Q R q small lies.resources (λ r on. m.2.resources r (subst (λ x. members x r ≡ true) (sym same) on)))
      (λ first. absurd (none (m.0, (before m.0).1 (m.1, first), inside)))
      (lies_before n m.0 R m.1.below small inside);
}

-- the least siphon of a minimal set contains that of none before it
pub contains_none : (n : Net) (R : ℕ) (sets : List ℕ) → IsMinimal n R → AreMinimalBefore n R sets → ContainsOne n sets R → ⊥
contains_none n R sets is before one =
    let kept = (before one.0).0 one.1 in
    before_not R (subst (λ x. IsBefore x R) (is.alone one.0 kept.0.below kept.0.candidate one.2) kept.1)

-- least siphons lie in one another as the rows that hold them do
pub lies_from_rows : (n : Net) → IsShaped n → (Q R : ℕ) (one other : ℕ → Bool) → IsSiphonOf n Q one → IsSiphonOf n R other → IsPartOf one other → LiesIn n (members Q) (members R)
lies_from_rows n shaped Q R one other of_Q of_R part =
    (as_places n shaped (members Q) (members R)).1 (λ place has. (of_R place).0 (part place ((of_Q place).1 has)))

pub rows_from_lies : (n : Net) → IsShaped n → (Q R : ℕ) (one other : ℕ → Bool) → IsSiphonOf n Q one → IsSiphonOf n R other → LiesIn n (members Q) (members R) → IsPartOf one other
rows_from_lies n shaped Q R one other of_Q of_R lies =
    λ place on. (of_R place).1 ((as_places n shaped (members Q) (members R)).0 lies place ((of_Q place).0 on))

-- a set that holds in its row the least siphon of one that stands in the list contains one of the list
pub contains_at : (n : Net) (sets : List ℕ) (R k Q : ℕ) → slice_get sets k ≡ Some Q → LiesIn n (members Q) (members R) → ContainsOne n sets R
contains_at n sets R k Q at lies = (Q, (k, slice_get_within sets k Q at, get_or_from_slice_get sets k Q Q at), lies)

-- where none of the list lies in it, it contains none
pub contains_no : (n : Net) (sets : List ℕ) (R : ℕ) → ((k Q : ℕ) → k < length sets → slice_get sets k ≡ Some Q → LiesIn n (members Q) (members R) → ⊥) → ContainsOne n sets R → ⊥
contains_no n sets R none one =
    let has = one.1 in
    none has.0 one.0 has.1 (slice_get_read sets (length sets) has.0 one.0 refl has.1 (sym has.2)) one.2

-- one set of the list further
pub none_more : (n : Net) (sets : List ℕ) (R k : ℕ) → ((j Q : ℕ) → j < k → slice_get sets j ≡ Some Q → LiesIn n (members Q) (members R) → ⊥)
    → (P : ℕ) → slice_get sets k ≡ Some P → (LiesIn n (members P) (members R) → ⊥)
    → (j Q : ℕ) → j < k + 1 → slice_get sets j ≡ Some Q → LiesIn n (members Q) (members R) → ⊥
none_more n sets R k none P here not j Q lt at lies =
    ⊎_elim
    (λ same. not (subst (λ C. LiesIn n (members C) (members R)) (same_Some Q P (sym at ∙ (ap (slice_get sets) same ∙ here))) lies))
    (λ differs. none j Q (omega (arith, lt, differs)) at lies)
    (cases_eq j k)

-- each member of the one mask is one of the other, where it is what both have
bit_of_both : (one other r : ℕ) → bit_and one other ≡ one → bit_at one r ≡ 1 → bit_at other r ≡ 1
bit_of_both one other r same on =
    let both : min (bit_at one r) (bit_at other r) ≡ bit_at one r = sym (bit_at_and one other r) ∙ ap (λ w. bit_at w r) same in
    omega (arith, both, on, bit_at-lt other r)

pub part_from_and : (one other : ℕ) → IsTrue (nat_eq (bit_and one other) one) → (r : ℕ) → IsTrue (members one r) → IsTrue (members other r)
part_from_and one other same r on = eq-eqb _ _ (bit_of_both one other r (eqb-true _ _ same) (eqb-true _ _ on))

bit_kept : (one other r : ℕ) → (bit_at one r ≡ 1 → bit_at other r ≡ 1) → bit_at (bit_and one other) r ≡ bit_at one r
bit_kept one other r part =
    ⊎_elim
    (λ on. omega (arith, bit_at_and one other r, on, part on))
    (λ off. omega (arith, bit_at_and one other r, off, bit_at-lt one r))
    (cases_eq (bit_at one r) 1)

pub and_from_part : (one other : ℕ) → ((r : ℕ) → IsTrue (members one r) → IsTrue (members other r)) → IsTrue (nat_eq (bit_and one other) one)
and_from_part one other part =
    eq-eqb _ _ (same_from_bits (bit_and one other) one (λ r. bit_kept one other r (λ on. eqb-true _ _ (part r (eq-eqb _ _ on)))))
