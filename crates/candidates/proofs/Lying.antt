-- Parts of sets, and least siphons that lie in others, in the order of sets.
use Rattle.std.proofs.Common.{◌≡◌, ℕ, ◌<◌, ◌^◌, ◌⊎◌, inl, inr, ap, ⊎_elim, arith}
use Rattle.std.specs.Int.RustNames.{count_ones}
use Rattle.std.proofs.lemmas.Bool.{cases_lt}
use Rattle.place_sets.specs.Sets.{IsPartOf}
use Rattle.net_laws.specs.Net.{Net}
use Rattle.net_laws.specs.Siphons.{LiesIn}
use Rattle.net_laws.specs.Candidates.{IsCandidate, members}
use Rattle.candidates.specs.Order.{IsBefore}
use Rattle.candidates.specs.Next.{IsNext}
use Rattle.candidates.proofs.Numbers.{part_whole, ones_bit, some_ones}
use Rattle.candidates.proofs.Order.{before_cases}

-- a part of a set is that set, or has fewer members
pub part_fewer : (Q C : ℕ) → Q < 2 ^ 64 → C < 2 ^ 64 → IsPartOf (members Q) (members C) → (Q ≡ C) ⊎ (count_ones Q < count_ones C)
part_fewer Q C q c part =
    ⊎_elim
    (λ fewer. inr fewer)
    (λ as_many. inl (part_whole 64 Q C q c part as_many))
    (cases_lt (count_ones Q) (count_ones C))

pub part_before : (Q C : ℕ) → Q < 2 ^ 64 → C < 2 ^ 64 → IsPartOf (members Q) (members C) → (Q ≡ C) ⊎ IsBefore Q C
part_before Q C q c part = ⊎_elim (λ same. inl same) (λ fewer. inr (inl fewer)) (part_fewer Q C q c part)

-- a set whose least siphon lies in that of another is that one, or has fewer members
pub lies_fewer : (n : Net) (Q C : ℕ) → Q < 2 ^ 64 → C < 2 ^ 64 → LiesIn n (members Q) (members C) → (Q ≡ C) ⊎ (count_ones Q < count_ones C)
lies_fewer n Q C q c lies = part_fewer Q C q c lies.resources

pub lies_before : (n : Net) (Q C : ℕ) → Q < 2 ^ 64 → C < 2 ^ 64 → LiesIn n (members Q) (members C) → (Q ≡ C) ⊎ IsBefore Q C
lies_before n Q C q c lies = part_before Q C q c lies.resources

-- a candidate has members, so that it stands behind the empty set
pub zero_before : (n : Net) (C : ℕ) → IsCandidate n (members C) → IsBefore 0 C
zero_before n C is = inl (omega (arith, ones_bit 0 (omega arith), some_ones C is.some.0 is.some.1))

-- a candidate that doesn't stand behind the next one is that one, or doesn't stand behind the set before
pub passed : (n : Net) (after next C : ℕ) → IsNext n after next → C < 2 ^ 64 → IsCandidate n (members C) → (IsBefore next C → ⊥) → (C ≡ next) ⊎ (IsBefore after C → ⊥)
passed n after next C is lt candidate not_behind =
    ⊎_elim
    (λ before. ⊎_elim
    (λ same. inl same)
    (λ behind. absurd (not_behind behind))
    (is.first C (record { below = lt; candidate = candidate; behind = before })))
    (λ other. inr (λ before. ⊎_elim (λ same. not_after_same after C same before) (λ back. not_both after C before back) other))
    (before_cases after C)
  where
    not_both : (a b : ℕ) → IsBefore a b → IsBefore b a → ⊥
    not_both a b p q =
        ⊎_elim
        (λ fewer. ⊎_elim (λ more. omega (arith, fewer, more)) (λ less. omega (arith, fewer, less.0)) q)
        (λ less. ⊎_elim (λ more. omega (arith, less.0, more)) (λ next. omega (arith, less.1, next.1)) q)
        p

    not_after_same : (a b : ℕ) → a ≡ b → IsBefore a b → ⊥
    not_after_same a b e p = ⊎_elim (λ fewer. omega (arith, fewer, ap count_ones e)) (λ less. omega (arith, less.1, e)) p
