-- How many threads, mutexes, monitors and cells a program may have.
use Rattle.std.specs.Prelude.{ℕ, ◌+◌, ◌<◌, ◌≤◌, length, sum_by}
use Rattle.c_tree.specs.Lined.{Program, bare_program}
use Rattle.c_tree.specs.Numbering as numbering
use Rattle.c_rules.specs.declared.rule.Count.{Count}
use Rattle.c_rules.specs.declared.rule.Count.TheVariants as count

-- how many a program has; main is a thread, and each member of an array counts
abbrev pub amount : Program → Count → ℕ
amount p count.Threads = numbering.thread_count (bare_program p)
amount p count.Mutexes = numbering.mutex_count (bare_program p)
amount p count.Monitors = length p.monitors
amount p count.Cells = length p.ints + sum_by (λ a. a.len) p.arrays

-- how many are allowed
abbrev pub limit : Count → ℕ
limit count.Threads = 32
limit count.Mutexes = 48
limit count.Monitors = 16
limit count.Cells = 65536

-- their order
abbrev pub count_rank : Count → ℕ
count_rank count.Threads = 0
count_rank count.Mutexes = 1
count_rank count.Monitors = 2
count_rank count.Cells = 3

-- the first count that passes its number
pub record FirstPassed (p : Program) (what : Count) : Type 0 where
  pub passed : limit what < amount p what
  pub first : (other : Count) → count_rank other < count_rank what → amount p other ≤ limit other
