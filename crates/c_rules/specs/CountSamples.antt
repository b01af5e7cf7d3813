-- Samples of how much a program has: exactly as much as it may, and one more.
use Rattle.std.specs.Prelude.{◌≡◌, ℕ, ◌+◌, List, [], ◌∷◌, codes, replicate, Some, None}
use Rattle.c_tree.specs.declared.program.Mode.TheVariants as mode
use Rattle.c_tree.specs.Expressions.{Number}
use Rattle.c_tree.specs.Lined.{Stmt, Create, Program}
use Rattle.c_rules.specs.declared.rule.Count.TheVariants as count
use Rattle.c_rules.specs.Counts.{amount, limit, FirstPassed}
use Rattle.c_rules.specs.Formed.{Formed}
use Rattle.c_rules.specs.Samples.{array, unready, slot, member, base, main_of, run_of, with_monitors}

-- the threads from this number on are created in their slots
abbrev pub creates : (first : ℕ) → (more : List ℕ) → List Stmt
creates first [] = []
creates first (line ∷ lines) = Create line (member (codes "t") (Number first)) (codes "run") (Number 0) ∷ creates (first + 1) lines

-- main creates one thread, and so many more
abbrev pub with_threads : ℕ → Program
with_threads more = record base {
  threads = slot (codes "t") (Some 40) 7 ∷ [];
  functions = run_of [] ∷ main_of (creates 1 (replicate more 43)) ∷ [];
}

abbrev pub with_mutexes : ℕ → Program
with_mutexes len = record base { mutexes = unready (codes "a") None 4 ∷ unready (codes "m") (Some len) 5 ∷ [] }

-- one int and an array
abbrev pub with_members : ℕ → Program
with_members len = record base { arrays = array (codes "q") len [] 3 ∷ [] }

pub record Amounts : Type 0 where
  pub threads : amount (with_threads 30) count.Threads ≡ limit count.Threads
  pub mutexes : amount (with_mutexes 47) count.Mutexes ≡ limit count.Mutexes
  pub monitors : amount (with_monitors base 16 (replicate 16 1)) count.Monitors ≡ limit count.Monitors
  pub cells : amount (with_members 65535) count.Cells ≡ limit count.Cells

pub record Enough : Type 0 where
  pub threads : Formed (with_threads 30) mode.Source
  pub mutexes : Formed (with_mutexes 47) mode.Source
  pub monitors : Formed (with_monitors base 16 (replicate 16 1)) mode.Any
  pub cells : Formed (with_members 65535) mode.Source

pub record OneTooMany : Type 0 where
  pub threads : FirstPassed (with_threads 31) count.Threads
  pub mutexes : FirstPassed (with_mutexes 48) count.Mutexes
  pub monitors : FirstPassed (with_monitors base 17 (replicate 17 1)) count.Monitors
  pub cells : FirstPassed (with_members 65536) count.Cells
  pub threads_first : FirstPassed (with_monitors (with_threads 31) 17 (replicate 17 1)) count.Threads
