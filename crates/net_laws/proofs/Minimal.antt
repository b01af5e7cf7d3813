-- Each candidate has a minimal set whose least siphon lies in its own.
use Rattle.std.proofs.Common.{◌≡◌, ℕ, zero, suc, ◌<◌, ◌≤◌, ◌^◌, List, Bool, Some, inl, inr, refl, sym, subst, ⊎_elim, arith}
use Rattle.std.specs.Prelude.{slice_get}
use Rattle.std.proofs.lemmas.Bool.{cases_lt}
use Rattle.net_laws.specs.Net.{Net, IsNet, IsShaped}
use Rattle.net_laws.specs.Siphons.{LiesIn}
use Rattle.net_laws.specs.Candidates.{IsCandidate, members, IsMinimal}
use Rattle.certificate.specs.declared.Line.{Line}
use Rattle.net_laws.specs.Lines.{Holds, IsCovered, HasLines, IsValid}
use Rattle.net_laws.specs.Markings.{IsMarking, IsStuck}
use Rattle.net_laws.proofs.Sums.{total_positive}
use Rattle.net_laws.proofs.Masks.{mask, mask-lt, members-mask, count, count_same, same_mask}
use Rattle.net_laws.proofs.Decided.{Decided, some_below, both, below_or_not, lies_in, is_candidate}
use Rattle.net_laws.proofs.Stuck.{wanted, wanted-is, stuck_candidate}
use Rattle.net_laws.proofs.Emptied.{no_line}

pub lies_refl : (n : Net) (R : ℕ → Bool) → LiesIn n R R
lies_refl n R = record { resources = λ r in_R. in_R; points = λ p l. l }

pub lies_trans : (n : Net) (P Q R : ℕ → Bool) → LiesIn n P Q → LiesIn n Q R → LiesIn n P R
lies_trans n P Q R a b = record { resources = λ r p. b.resources r (a.resources r p); points = λ p l. b.points p (a.points p l) }

-- a candidate with fewer members whose least siphon lies in that of C
Fewer : Net → ℕ → ℕ → Type 0
Fewer n C Q = IsCandidate n (members Q) × (LiesIn n (members Q) (members C) × (count n.resources (members Q) < count n.resources (members C)))

fewer_or_not : (n : Net) → IsShaped n → (C Q : ℕ) → Decided ((Q < 2 ^ 64) × Fewer n C Q)
unfolding Fewer
fewer_or_not n shaped C Q =
    ⊎_elim
    (λ lt. both _ _ (inl lt) (both _ _ (is_candidate n Q lt) (both _ _ (lies_in n shaped Q C lt) (below_or_not _ _))))
    (λ off. inr (λ f. off f.0))
    (below_or_not Q (2 ^ 64))

minimal_by : (n : Net) → IsShaped n → (top : ℕ) → top ≡ 2 ^ 64 → (k C : ℕ) → C < 2 ^ 64 → count n.resources (members C) ≤ k → IsCandidate n (members C) → (Q : ℕ) × IsMinimal n Q × LiesIn n (members Q) (members C)
unfolding Fewer
minimal_by n shaped top is zero C c le candidate =
    let r = candidate.some in
    absurd (omega (arith, le, total_positive n.resources (members C) (λ r. 1) r.0 (candidate.named r.0 r.1) r.1 (omega arith)))
minimal_by n shaped top is (suc k) C c le candidate =
    ⊎_elim
    (λ s. let lies = s.2.1.1.0 in
    let m = minimal_by n shaped top is k s.0 s.2.0 (omega (arith, s.2.1.1.1, le)) s.2.1.0 in
    (m.0, m.1, lies_trans n (members m.0) (members s.0) (members C) m.2 lies))
    (λ none. (
      C,
      record {
        below = c;
        candidate = candidate;
        alone = λ Q q other lies.
            ⊎_elim
            (λ fewer. absurd (none (Q, omega (arith, is, q), (q, (other, (lies, fewer))))))
            (λ as_many. same_mask Q C q c lies.resources (λ r on. count_same n.resources (members Q) (members C) lies.resources as_many r (candidate.named r on) on))
            (cases_lt (count n.resources (members Q)) (count n.resources (members C)));
      },
      lies_refl n (members C),
    ))
    (some_below top (λ Q. (Q < 2 ^ 64) × Fewer n C Q) (fewer_or_not n shaped C))

pub minimal : (n : Net) → IsShaped n → (C : ℕ) → C < 2 ^ 64 → IsCandidate n (members C) → (Q : ℕ) × IsMinimal n Q × LiesIn n (members Q) (members C)
minimal n shaped C c candidate = minimal_by n shaped (2 ^ 64) refl (count n.resources (members C)) C c (omega arith) candidate

-- where no minimal set is bad, each candidate has a line
pub covered_lines : (n : Net) → IsShaped n → IsCovered n → HasLines n
covered_lines n shaped covered C c candidate =
    let m = minimal n shaped C c candidate in
    let line = covered m.0 m.1 in
    (record { resources = m.0; kind = line.0 }, line.2, m.2)

-- where each candidate has a line, no marking has a stuck set
pub no_stuck_set : (n : Net) (m : List ℕ) (T : ℕ → Bool) → IsNet n → n.resources ≤ 64 → HasLines n → IsMarking n m → IsStuck n m T → ⊥
no_stuck_set n m T net few lines marking stuck =
    let R = wanted n m T in
    let wants = wanted-is n m T marking in
    let c = stuck_candidate n m T R net stuck wants in
    let same : members (mask 64 c.0) ≡ c.0 = members-mask 64 c.0 (λ r on. omega (arith, c.1.named r on)) in
    let l = lines (mask 64 c.0) (mask-lt 64 c.0) (subst (IsCandidate n) (sym same) c.1) in
    let lies = lies_trans n (members l.0.resources) c.0 R (subst (LiesIn n (members l.0.resources)) same l.2) c.2 in
    no_line n m T R (members l.0.resources) l.0.kind net marking stuck wants l.1 lies

-- a valid certificate has a line for each candidate
pub valid_lines : (n : Net) (lines : List Line) → IsValid n lines → HasLines n
valid_lines n lines valid C c candidate = let l = valid.cover C c candidate in (l.1, valid.hold l.0 l.1 l.2, l.3)

-- lines for all minimal sets, which hold, are a valid certificate
pub minimal_valid : (n : Net) (lines : List Line) → IsShaped n → ((k : ℕ) (l : Line) → slice_get lines k ≡ Some l → Holds n l)
    → ((C : ℕ) → IsMinimal n C → (k : ℕ) × (l : Line) × (slice_get lines k ≡ Some l) × (l.resources ≡ C)) → IsValid n lines
minimal_valid n lines shaped hold each = record {
  hold = hold;
  cover = λ C c candidate.
      let m = minimal n shaped C c candidate in
      let l = each m.0 m.1 in
      (l.0, l.1, l.2, subst (λ Q. LiesIn n (members Q) (members C)) (sym l.3) m.2);
}
