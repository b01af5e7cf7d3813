-- One answer alone is right.
use Rattle.std.proofs.Common.{◌≡◌, ℕ, ◌⊎◌, List, Result, Ok, Err, refl, sym, ap, subst, inl, inr, ⊎_elim, arith, MatchResult}
use Rattle.std.proofs.lemmas.Bool.{cases_order}
use Rattle.certificate.specs.declared.Line.{Line}
use Rattle.net_laws.specs.Net.{Net}
use Rattle.net_laws.specs.Lines.{IsValid}
use Rattle.candidates.specs.Components.{IsFirstLarge}
use Rattle.candidates.proofs.Order.{before_not, before_trans}
use Rattle.candidates.proofs.Large.{first_large_same, large_not_small}
use Rattle.certificate_check.specs.declared.verdict.Verdict.{Verdict}
use Rattle.certificate_check.specs.declared.verdict.Verdict.TheVariants.{LineFails, NotCovered, Valid}
use Rattle.certificate_check.specs.declared.verdict.CheckFault.{CheckFault}
use Rattle.certificate_check.specs.declared.verdict.CheckFault.TheVariants.{ComponentTooLarge, Memory}
use Rattle.certificate_check.specs.Judged.{AllHold, IsFirstFailing, IsFirstUncovered}
use Rattle.certificate_check.specs.Answers.{IsVerdict, IsFault, ComesWhere}

failing_or_hold : (n : Net) (lines : List Line) (index : ℕ) → IsFirstFailing n lines index → AllHold n lines → ⊥
failing_or_hold n lines index is hold = is.fails (hold is.place is.line is.there)

failing_same : (n : Net) (lines : List Line) (i j : ℕ) → IsFirstFailing n lines i → IsFirstFailing n lines j → i ≡ j
failing_same n lines i j p q =
    ⊎_elim
    (λ same. omega (arith, p.counted, q.counted, same))
    (λ o. ⊎_elim
    (λ less. absurd (p.fails (q.first p.place p.line less p.there)))
    (λ less. absurd (q.fails (p.first q.place q.line less q.there)))
    o)
    (cases_order p.place q.place)

uncovered_same : (n : Net) (lines : List Line) (C D : ℕ) → IsFirstUncovered n lines C → IsFirstUncovered n lines D → C ≡ D
uncovered_same n lines C D c d =
    ⊎_elim
    (λ same. sym same)
    (λ before. ⊎_elim
    (λ same. same)
    (λ back. absurd (before_not C (before_trans C D C before back)))
    (d.first C c.below c.candidate c.uncovered))
    (c.first D d.below d.candidate d.uncovered)

covered_or_not : (n : Net) (lines : List Line) (C : ℕ) → IsFirstUncovered n lines C → IsValid n lines → ⊥
covered_or_not n lines C is valid = is.uncovered (valid.cover C is.below is.candidate)

verdict_same : (n : Net) (lines : List Line) (v w : Verdict) → IsVerdict n lines v → IsVerdict n lines w → v ≡ w
verdict_same n lines (LineFails i) (LineFails j) p q = ap LineFails (failing_same n lines i j p q)
verdict_same n lines (LineFails i) (NotCovered D) p q = absurd (failing_or_hold n lines i p q.0)
verdict_same n lines (LineFails i) Valid p q = absurd (failing_or_hold n lines i p q.0.hold)
verdict_same n lines (NotCovered C) (LineFails j) p q = absurd (failing_or_hold n lines j q p.0)
verdict_same n lines (NotCovered C) (NotCovered D) p q = ap NotCovered (uncovered_same n lines C D p.2 q.2)
verdict_same n lines (NotCovered C) Valid p q = absurd (covered_or_not n lines C p.2 q.0)
verdict_same n lines Valid (LineFails j) p q = absurd (failing_or_hold n lines j q p.0.hold)
verdict_same n lines Valid (NotCovered D) p q = absurd (covered_or_not n lines D q.2 p.0)
verdict_same n lines Valid Valid p q = refl

verdict_or_large : (n : Net) (lines : List Line) (v : Verdict) (C : ℕ) → IsVerdict n lines v → AllHold n lines → IsFirstLarge n C → ⊥
verdict_or_large n lines (LineFails i) C p hold large = failing_or_hold n lines i p hold
verdict_or_large n lines (NotCovered D) C p hold large = large_not_small n C large p.1
verdict_or_large n lines Valid C p hold large = large_not_small n C large p.1

-- what is right of an answer
abbrev pub IsRight : Net → List Line → Result Verdict CheckFault → Type 0
IsRight n lines result = MatchResult result (λ v. IsVerdict n lines v) (λ f. IsFault n lines f)

-- a verdict comes exactly where it is right
pub verdict_comes : (n : Net) (lines : List Line) (result : Result Verdict CheckFault) (v : Verdict) → IsRight n lines result → ComesWhere result (Ok v) (IsVerdict n lines v)
verdict_comes n lines result v right = (λ is. subst (IsRight n lines) is right, comes n lines result v right)
  where
    comes : (n : Net) (lines : List Line) (result : Result Verdict CheckFault) (v : Verdict) → IsRight n lines result → IsVerdict n lines v → (result ≡ Ok v) ⊎ (result ≡ Err Memory)
    comes n lines (Ok w) v right is = inl (ap Ok (verdict_same n lines w v right is))
    comes n lines (Err (ComponentTooLarge C)) v right is = absurd (verdict_or_large n lines v C is right.0 right.1)
    comes n lines (Err Memory) v right is = inr refl

-- the fault of a component that is too large comes exactly where there is cause for it
pub large_comes : (n : Net) (lines : List Line) (result : Result Verdict CheckFault) (C : ℕ) → IsRight n lines result → ComesWhere result (Err (ComponentTooLarge C)) (AllHold n lines × IsFirstLarge n C)
large_comes n lines result C right = (λ is. subst (IsRight n lines) is right, comes n lines result C right)
  where
    comes : (n : Net) (lines : List Line) (result : Result Verdict CheckFault) (C : ℕ) → IsRight n lines result → AllHold n lines × IsFirstLarge n C → (result ≡ Err (ComponentTooLarge C)) ⊎ (result ≡ Err Memory)
    comes n lines (Ok w) C right is = absurd (verdict_or_large n lines w C right is.0 is.1)
    comes n lines (Err (ComponentTooLarge D)) C right is = inl (ap (λ x. Err (ComponentTooLarge x)) (first_large_same n D C right.1 is.1))
    comes n lines (Err Memory) C right is = inr refl
