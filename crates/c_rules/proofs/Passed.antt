-- Each count is within its number, or one is the first that passes it.
use Rattle.std.proofs.Common.{◌≡◌, ℕ, ◌==◌, if◌then◌else◌, ◌<◌, ◌≤◌, ◌⊎◌, inl, inr, refl, sym, ap, ◌∙◌, arith}
use Rattle.c_tree.specs.Lined.{Program}
use Rattle.c_rules.specs.declared.rule.Count.{Count}
use Rattle.c_rules.specs.declared.rule.Count.TheVariants as count
use Rattle.c_rules.specs.Counts.{amount, limit, count_rank, FirstPassed}

within_or_passed : (a n : ℕ) → (a ≤ n) ⊎ (n < a)
within_or_passed a n = grind arith

abbrev Within : Program → Count → Type 0
Within p what = amount p what ≤ limit what

pub data Counted (p : Program) : Type 0 where
  within : ((what : Count) → Within p what) → Counted p
  passed : (what : Count) → FirstPassed p what → Counted p

module _ (p : Program) where
  first_threads : limit count.Threads < amount p count.Threads → FirstPassed p count.Threads
  first_threads h = record { passed = h; first = below }
    where
      below : (other : Count) → count_rank other < 0 → Within p other
      below other lt = absurd (omega arith)

  first_mutexes : Within p count.Threads → limit count.Mutexes < amount p count.Mutexes → FirstPassed p count.Mutexes
  first_mutexes a h = record { passed = h; first = below }
    where
      below : (other : Count) → count_rank other < 1 → Within p other
      below count.Threads lt = a
      below count.Mutexes lt = absurd (omega arith)
      below count.Monitors lt = absurd (omega arith)
      below count.Cells lt = absurd (omega arith)

  first_monitors : Within p count.Threads → Within p count.Mutexes → limit count.Monitors < amount p count.Monitors → FirstPassed p count.Monitors
  first_monitors a b h = record { passed = h; first = below }
    where
      below : (other : Count) → count_rank other < 2 → Within p other
      below count.Threads lt = a
      below count.Mutexes lt = b
      below count.Monitors lt = absurd (omega arith)
      below count.Cells lt = absurd (omega arith)

  first_cells : Within p count.Threads → Within p count.Mutexes → Within p count.Monitors → limit count.Cells < amount p count.Cells → FirstPassed p count.Cells
  first_cells a b c h = record { passed = h; first = below }
    where
      below : (other : Count) → count_rank other < 3 → Within p other
      below count.Threads lt = a
      below count.Mutexes lt = b
      below count.Monitors lt = c
      below count.Cells lt = absurd (omega arith)

  all_within : Within p count.Threads → Within p count.Mutexes → Within p count.Monitors → Within p count.Cells → (what : Count) → Within p what
  all_within a b c d count.Threads = a
  all_within a b c d count.Mutexes = b
  all_within a b c d count.Monitors = c
  all_within a b c d count.Cells = d

  pub counted : Counted p
  counted = elim (within_or_passed (amount p count.Threads) (limit count.Threads)) [
    | inr h ↦ passed count.Threads (first_threads h)
    | inl a ↦ elim (within_or_passed (amount p count.Mutexes) (limit count.Mutexes)) [
      | inr h ↦ passed count.Mutexes (first_mutexes a h)
      | inl b ↦ elim (within_or_passed (amount p count.Monitors) (limit count.Monitors)) [
        | inr h ↦ passed count.Monitors (first_monitors a b h)
        | inl c ↦ elim (within_or_passed (amount p count.Cells) (limit count.Cells)) [
          | inr h ↦ passed count.Cells (first_cells a b c h)
          | inl d ↦ within (all_within a b c d)
        ]
      ]
    ]
  ]

abbrev count_at : ℕ → Count
count_at n = if n == 0 then count.Threads else if n == 1 then count.Mutexes else if n == 2 then count.Monitors else count.Cells

count_of_rank : (c : Count) → count_at (count_rank c) ≡ c
count_of_rank count.Threads = refl
count_of_rank count.Mutexes = refl
count_of_rank count.Monitors = refl
count_of_rank count.Cells = refl

same_count : (c d : Count) → count_rank c ≡ count_rank d → c ≡ d
same_count c d e = sym (count_of_rank c) ∙ ap count_at e ∙ count_of_rank d

not_below : (p : Program) (c d : Count) → FirstPassed p c → FirstPassed p d → count_rank c < count_rank d → ⊥
not_below p c d f g lt = let small = g.first c lt in let large = f.passed in omega arith

in_order : (a b : ℕ) → (a ≡ b) ⊎ ((a < b) ⊎ (b < a))
in_order a b = grind arith

pub one_first_passed : (p : Program) (c d : Count) → FirstPassed p c → FirstPassed p d → c ≡ d
one_first_passed p c d f g = elim (in_order (count_rank c) (count_rank d)) [
  | inl e ↦ same_count c d e
  | inr (inl lt) ↦ absurd (not_below p c d f g lt)
  | inr (inr lt) ↦ absurd (not_below p d c g f lt)
]
